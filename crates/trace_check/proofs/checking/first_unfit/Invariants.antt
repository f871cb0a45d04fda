use Rattle.std.proofs.Common.{ℕ, ◌<◌}
use Rattle.trace_check.specs.Lawful.{Fits}
use Rattle.trace_check.proofs.checking.first_unfit.Given as goal

-- the facts so far may stand where they do
abbrev pub invariant-loop-place : goal.invariant-loop-place
invariant-loop-place l = (earlier : ℕ) → earlier < l.place → Fits l.book.facts.items earlier
