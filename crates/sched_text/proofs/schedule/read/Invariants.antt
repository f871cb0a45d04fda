use Rattle.std.proofs.Common.{ℕ, List, ◌++◌, length}
use Rattle.sched_text.specs.declared.schedule.Placed.{Placed}
use Rattle.sched_text.specs.Lines.{Say, IsFirstBad, lines_in}
use Rattle.sched_text.specs.Schedule.{SaysEvent}
use Rattle.sched_text.proofs.schedule.read.Given as goal

-- whatever the lines that are left say, all lines say what was read before it
abbrev pub invariant-loop-line : goal.invariant-loop-line
invariant-loop-line l = record {
  said : (tail : List Placed) → Say SaysEvent l.lines tail → Say SaysEvent (lines_in l.text) (l.placed.items ++ tail);
  good : (bad : ℕ) → IsFirstBad SaysEvent l.lines bad → IsFirstBad SaysEvent (lines_in l.text) bad;
}

abbrev pub decreases-loop-line : goal.decreases-loop-line
decreases-loop-line l = length l.lines
