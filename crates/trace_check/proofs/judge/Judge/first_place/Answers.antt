use Rattle.std.proofs.Common.{ℕ, inl, inr, subst, arith}
use Rattle.std.proofs.lemmas.Bool.{both_ways}
use Rattle.std.proofs.lemmas.Bool.{cases_lt}
use Rattle.trace_check.specs.Sentences.{Keeps}
use Rattle.trace_check.proofs.Tests.{beyond_facts}
use Rattle.trace_check.proofs.judge.Judge.first_place.Goals as goal

pub returns-then-not-keeps : goal.returns-then-not-keeps
returns-then-not-keeps c = record {
  within = omega arith;
  shows = λ keeps. both_ways c.keeps.result c.if-not-keeps.true (c.keeps.ensures.1 keeps);
  first = c.loop-place.invariant;
}

pub loop-place-preserved : goal.loop-place-preserved
loop-place-preserved c = λ earlier less. elim (cases_lt earlier c.loop-place.place) [
  | inl before ↦ c.loop-place.invariant earlier before
  | inr more ↦ subst (λ (p : ℕ). Keeps c.args.sentence c.args.self.now.book.facts.items p) (omega (arith, less, more)) (c.keeps.ensures.0 c.if-not-keeps.false)
]

pub returns : goal.returns
returns c = λ at. elim (cases_lt at c.loop-place.place) [
  | inl before ↦ c.loop-place.invariant at before
  | inr more ↦ beyond_facts c.args.sentence c.args.self.now.book.facts.items at (omega (arith, more))
]
