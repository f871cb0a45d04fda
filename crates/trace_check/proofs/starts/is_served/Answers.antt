use Rattle.std.proofs.Common.{ℕ, IsTrue, ◌↔◌, ◌≡◌, IfOk, OnOk, subst, sym}
use Rattle.trace_check.specs.declared.fact.Fact.{Fact}
use Rattle.trace_check.specs.States.{IsRight, state_of, state_with}
use Rattle.trace_check.proofs.Judging.{yes}
use Rattle.trace_check.proofs.Stepping.{unchanged}
use Rattle.trace_check.proofs.starts.is_served.Goals as goal

pub returns-in-Entry-clause-right : goal.returns-in-Entry-clause-right
returns-in-Entry-clause-right c = subst (λ (f : Fact). IfOk c.is_entry_served.result (λ right. IsTrue right ↔ IsRight c.args.services.now f)) (sym c.in-Entry.is) c.is_entry_served.ensures.right

pub returns-in-Entry-clause-after : goal.returns-in-Entry-clause-after
returns-in-Entry-clause-after c =
    subst (λ (f : Fact). OnOk c.is_entry_served.result ((start : ℕ) → state_of c.is_entry_served.new.services start ≡ state_with start (state_of c.args.services.now start) f)) (sym c.in-Entry.is) c.is_entry_served.ensures.after

pub returns-in_default-clause-right : goal.returns-in_default-clause-right
returns-in_default-clause-right c = yes (λ entry is ran. absurd (c.in_default.not-Entry entry is))

pub returns-in_default-clause-after : goal.returns-in_default-clause-after
returns-in_default-clause-after c = λ start. sym (unchanged start (state_of c.args.services.now start) c.args.fact.now c.in_default.not-Entry)
