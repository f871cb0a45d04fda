use Rattle.trace_check.specs.Books.{AreExecuted}
use Rattle.trace_check.proofs.judge.executed.Given as goal

-- the table is that of the lines so far
abbrev pub invariant-loop-place : goal.invariant-loop-place
invariant-loop-place l = AreExecuted l.book.facts.items l.table l.place
