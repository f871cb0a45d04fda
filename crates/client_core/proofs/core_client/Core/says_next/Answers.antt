use Rattle.client_core.proofs.FrontLemmas.{queued_at, room_of}
use Rattle.client_core.proofs.GoesLemmas.{kept_calls}
use Rattle.client_core.proofs.QueueLemmas.{so_far_left, so_far_waits}
use Rattle.client_core.proofs.core_client.Core.says_next.Goals as goal

pub returns-then-says_call-clause-so_far : goal.returns-then-says_call-clause-so_far
returns-then-says_call-clause-so_far g c first k count less so =
    so_far_left first _ _ _ _ c.args.place k count c.in-Some.call so c.requires.room
    (c.in-Some.ensures.member so.now.client.table (kept_calls _ _ _ so.now c.self.view_is so.goes))
    (c.says_call.ensures.goes so.now so.goes) (c.says_call.ensures.left c.if-says_call.true so.now so.goes)

pub returns-else-says_call-clause-so_far : goal.returns-else-says_call-clause-so_far
returns-else-says_call-clause-so_far g c first k count less so =
    so_far_waits first _ _ _ _ c.args.place k count c.in-Some.call so c.requires.room
    (c.in-Some.ensures.member so.now.client.table (kept_calls _ _ _ so.now c.self.view_is so.goes))
    (c.says_call.ensures.goes so.now so.goes) (λ still. c.says_call.ensures.waits c.if-says_call.false still so.now so.goes)

pub says_call-requires-clause-bytes : goal.says_call-requires-clause-bytes
says_call-requires-clause-bytes g c free =
    room_of c.args.self.now c.args.place c.in-Some.call c.args.draft.now c.requires.room c.requires.bytes
    (queued_at _ c.args.self.now c.args.place c.in-Some.call c.self.view_is c.in-Some.ensures.kept) free

pub returns-then-says_call-clause-bytes_left : goal.returns-then-says_call-clause-bytes_left
returns-then-says_call-clause-bytes_left g c =
    c.says_call.ensures.bytes_left c.if-says_call.true c.args.place
    (queued_at _ c.args.self.now c.args.place c.in-Some.call c.self.view_is c.in-Some.ensures.kept) c.requires.bytes

pub returns-else-says_call-clause-bytes_left : goal.returns-else-says_call-clause-bytes_left
returns-else-says_call-clause-bytes_left g c =
    c.says_call.ensures.bytes_behind c.if-says_call.false c.args.place
    (queued_at _ c.args.self.now c.args.place c.in-Some.call c.self.view_is c.in-Some.ensures.kept) c.requires.bytes
