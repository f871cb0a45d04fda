use Rattle.std.proofs.Common.{◌≡◌, ◌++◌, length}
use Rattle.sched_text.specs.Lines.{lines_in}
use Rattle.trace_check.specs.Reading.{facts_of}
use Rattle.trace_check.specs.Facts.{numbers_of}
use Rattle.trace_check.proofs.checking.read.Given as goal

-- what was read, and what the lines that are left say, is what all lines say
abbrev pub invariant-loop-line : goal.invariant-loop-line
invariant-loop-line l = record {
  facts : facts_of (lines_in l.text) ≡ l.log.facts.items ++ facts_of l.lines;
  lines : numbers_of (lines_in l.text) ≡ l.log.lines.items ++ numbers_of l.lines;
}

abbrev pub decreases-loop-line : goal.decreases-loop-line
decreases-loop-line l = length l.lines
