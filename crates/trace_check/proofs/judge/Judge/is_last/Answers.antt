use Rattle.std.proofs.Common.{inl, inr}
use Rattle.std.proofs.lemmas.Bool.{both_ways}
use Rattle.trace_check.proofs.Judging.{no, yes}
use Rattle.trace_check.proofs.judge.Judge.is_last.Goals as goal

pub returns-then-has_later : goal.returns-then-has_later
returns-then-has_later c = no (λ h. h (inl (c.has_later.ensures.0 c.if-has_later.true)))

pub returns-then-waits : goal.returns-then-waits
returns-then-waits c = no (λ h. h (inr (c.waits.ensures.0 c.if-waits.true)))

pub returns : goal.returns
returns c = yes (λ replaced. elim replaced [
  | inl later ↦ both_ways c.has_later.result c.if-has_later.false (c.has_later.ensures.1 later)
  | inr waits ↦ both_ways c.waits.result c.if-waits.false (c.waits.ensures.1 waits)
])
