use Rattle.std.proofs.Common.{ℕ, ◌<◌}
use Rattle.trace_check.specs.Sentences.{Keeps}
use Rattle.trace_check.proofs.judge.Judge.first_place.Given as goal

-- the lines so far show no break
abbrev pub invariant-loop-place : goal.invariant-loop-place
invariant-loop-place l = (earlier : ℕ) → earlier < l.place → Keeps l.sentence l.self.book.facts.items earlier
