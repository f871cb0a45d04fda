use Rattle.std.proofs.Common.{ℕ, List, Option, IfOk, IfSome, IfNone, subst}
use Rattle.sched_text.specs.Bodies.{SaysCall}
use Rattle.sched_text.proofs.Readings.{if_said, if_nothing}
use Rattle.sched_text.proofs.body.call_of.Goals as goal

pub returns-clause-said : goal.returns-clause-said
returns-clause-said c =
    subst (λ words. IfOk c.call_line.result (λ call. IfSome call (λ call. SaysCall call.body call.after words)))
    c.new.ensures (if_said c.new.result c.call_line.result c.call_line.ensures)

pub returns-clause-nothing : goal.returns-clause-nothing
returns-clause-nothing c =
    subst (λ words. IfOk c.call_line.result (λ call. IfNone call ((body : List ℕ) (after : Option ℕ) → SaysCall body after words → ⊥)))
    c.new.ensures (if_nothing c.new.result c.call_line.result c.call_line.ensures)
