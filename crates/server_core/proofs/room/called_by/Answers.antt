use Rattle.std.proofs.Common.{◌+◌, List, take, subst, arith}
use Rattle.std.specs.Prelude.{◌||◌}
use Rattle.std.proofs.lemmas.List.{take_all}
use Rattle.server_dispatch.specs.declared.dues.Due.{Due}
use Rattle.server_dispatch.specs.Action.{asked_by}
use Rattle.server_session.specs.Unsaid.{IsCalled, is_among, is_to}
use Rattle.server_core.specs.SettlingAll.{calls_by}
use Rattle.server_core.proofs.Calling.{calls-on}
use Rattle.server_core.proofs.room.called_by.Goals as goal

pub loop-due-preserved : goal.loop-due-preserved
loop-due-preserved c =
    let dues = c.args.dues.now in
    let i = c.loop-due.due-index in
    let due = c.due-item.result in
    c.called_replies_are_few.ensures.fewer (calls_by (take (i + 1) dues)) (λ kept. is_among (asked_by due.action) kept || (is_to due.number kept || calls_by (take i dues) kept))
    c.args.standing.now c.calls_for-called.result (calls-on dues i due c.loop-due-test.true c.due-item.is)
    (c.calls_for-called.ensures (calls_by (take i dues)) c.loop-due.invariant)

pub returns : goal.returns
returns c =
    subst (λ (dues : List Due). IsCalled (calls_by dues) c.args.standing.now c.loop-due.called) (take_all c.loop-due.due-index c.args.dues.now (omega arith)) c.loop-due.invariant
