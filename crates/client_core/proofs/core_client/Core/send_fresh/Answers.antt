use Rattle.std.proofs.Common.{◌∙◌, ◌+◌, length, ap, sym, arith}
use Rattle.client_rules.specs.Client.{at_moment}
use Rattle.client_rules.specs.Filling.{fills}
use Rattle.client_core.specs.Flushed.{setting_of}
use Rattle.client_core.proofs.FlushLemmas.{begins}
use Rattle.client_core.specs.Draft.{Draft}
use Rattle.client_core.specs.Kept.{Contents}
use Rattle.client_core.specs.Owed.{asked_count, calls_most, needs_binding, owed_bytes, owed_numbers}
use Rattle.client_core.proofs.OwedLemmas.{sealed_more}
use Rattle.client_core.proofs.RoomLemmas.{room_less}
use Rattle.client_core.proofs.core_client.Core.send_fresh.Goals as goal

pub returns-clause-sent : goal.returns-clause-sent
returns-clause-sent g c client stands any =
    let setting = setting_of g.D.Draw.step (g.S.Seal.keys c.args.seal.now) in
    let begun = at_moment c.args.now client in
    let goes = begins _ _ begun c.args.draw.now c.requires.draft (c.at.ensures.stands client stands) in
    c.send_draft.ensures.sent (fills setting begun c.args.draw.now) (c.fills.ensures.goes begun goes) (sym (c.fills.ensures.drawn begun goes)) any

pub fills-requires-clause-states : goal.fills-requires-clause-states
fills-requires-clause-states g c = omega (arith, c.requires.states, ap (λ (core : Contents). asked_count core.rest.waiting.states core.calls.rows) c.at.ensures.kept)

pub fills-requires-clause-bytes : goal.fills-requires-clause-bytes
fills-requires-clause-bytes g c = room_less _ _ _ (omega (arith, ap owed_bytes c.at.ensures.kept)) c.requires.owed

pub fills-requires-clause-places : goal.fills-requires-clause-places
fills-requires-clause-places g c = omega (arith, ap owed_numbers c.at.ensures.kept, c.requires.places)

pub fills-requires-clause-reserved : goal.fills-requires-clause-reserved
fills-requires-clause-reserved g c = omega (arith, ap calls_most c.at.ensures.kept, ap (λ (core : Contents). core.calls.room) c.at.ensures.kept, c.requires.reserved)

pub fills-requires-clause-binding : goal.fills-requires-clause-binding
fills-requires-clause-binding g c needs = c.requires.binding (sym (ap (λ (core : Contents). needs_binding core.rest) c.at.ensures.kept) ∙ needs)

pub send_draft-requires-clause-room : goal.send_draft-requires-clause-room
send_draft-requires-clause-room g c =
    let few = sealed_more (8 + length c.fills.new.draft.rows) (8 + c.args.room.draft.room) (omega (arith, c.fills.ensures.same_room, ap (λ (draft : Draft). length draft.rows) c.requires.draft)) in
    omega (arith, few, c.requires.packet)
