use Rattle.std.proofs.Common.{ℕ, inl, inr, subst, arith}
use Rattle.std.proofs.lemmas.Bool.{both_ways, cases_lt}
use Rattle.trace_check.specs.Lawful.{Fits}
use Rattle.trace_check.proofs.Tests.{past}
use Rattle.trace_check.proofs.checking.first_unfit.Goals as goal

pub returns-then-not-fits : goal.returns-then-not-fits
returns-then-not-fits c = record {
  within = omega arith;
  unfit = λ fits. both_ways c.fits.result c.if-not-fits.true (c.fits.ensures.1 fits);
  first = c.loop-place.invariant;
}

pub loop-place-preserved : goal.loop-place-preserved
loop-place-preserved c = λ earlier less. elim (cases_lt earlier c.loop-place.place) [
  | inl before ↦ c.loop-place.invariant earlier before
  | inr more ↦ subst (λ (p : ℕ). Fits c.args.book.now.facts.items p) (omega (arith, less, more)) (c.fits.ensures.0 c.if-not-fits.false)
]

pub returns : goal.returns
returns c = λ at. elim (cases_lt at c.loop-place.place) [
  | inl before ↦ c.loop-place.invariant at before
  | inr more ↦ λ fact is. absurd (past c.args.book.now.facts.items at fact (omega (arith, more)) is)
]
