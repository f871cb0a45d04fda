use Rattle.std.proofs.Common.{ℕ, List, ◌++◌, length}
use Rattle.sched_text.specs.Lines.{Say, IsFirstBad, lines_in}
use Rattle.cmd_relay.specs.declared.capture.Piece.{Piece}
use Rattle.cmd_relay.specs.Captures.{SaysPiece}
use Rattle.cmd_relay.proofs.capture.read_capture.Given as goal

-- whatever the lines that are left say, all lines say what was read before it
abbrev pub invariant-loop-line : goal.invariant-loop-line
invariant-loop-line l = record {
  said : (tail : List Piece) → Say SaysPiece l.lines tail → Say SaysPiece (lines_in l.text) (l.pieces.items ++ tail);
  good : (bad : ℕ) → IsFirstBad SaysPiece l.lines bad → IsFirstBad SaysPiece (lines_in l.text) bad;
}

abbrev pub decreases-loop-line : goal.decreases-loop-line
decreases-loop-line l = length l.lines
