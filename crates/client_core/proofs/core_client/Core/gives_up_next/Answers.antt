use Rattle.std.proofs.Common.{sym}
use Rattle.client_core.proofs.GoesLemmas.{kept_calls}
use Rattle.client_core.proofs.GivingLemmas.{quiet_left, quiet_next, quiet_still, quiet_waits}
use Rattle.client_core.proofs.core_client.Core.gives_up_next.Goals as goal

pub returns-in-None-clause-quiet : goal.returns-in-None-clause-quiet
returns-in-None-clause-quiet g c first k count less so =
    absurd (quiet_next first _ c.args.place k count so less (sym (c.in-None.ensures.member so.now.client.table (kept_calls _ _ _ so.now c.self.view_is so.goes))))

pub returns-then-gives_up_call-clause-quiet : goal.returns-then-gives_up_call-clause-quiet
returns-then-gives_up_call-clause-quiet g c first k count less so =
    let told = c.in-Some.ensures.member so.now.client.table (kept_calls _ _ _ so.now c.self.view_is so.goes) in
    let still = quiet_still first _ c.args.place k count c.in-Some.call so told in
    quiet_left first _ _ c.args.place k count c.in-Some.call so told
    (c.gives_up_call.ensures.goes so.now so.goes still) (c.gives_up_call.ensures.left c.if-gives_up_call.true so.now so.goes still)
    (λ other. c.gives_up_call.ensures.none so.now other so.goes still)

pub returns-else-gives_up_call-clause-quiet : goal.returns-else-gives_up_call-clause-quiet
returns-else-gives_up_call-clause-quiet g c first k count less so =
    let told = c.in-Some.ensures.member so.now.client.table (kept_calls _ _ _ so.now c.self.view_is so.goes) in
    let still = quiet_still first _ c.args.place k count c.in-Some.call so told in
    quiet_waits first _ _ c.args.place k count c.in-Some.call so told
    (c.gives_up_call.ensures.goes so.now so.goes still) (c.gives_up_call.ensures.waits c.if-gives_up_call.false so.now so.goes still)
