use Rattle.std.proofs.Common.{◌≡◌, ◌≢◌, ℕ, List, ◌++◌, length, Some, IfSome}
use Rattle.std.specs.List.{All}
use Rattle.mt_edge.proofs.lines.read_line.Given as goal

-- what was read is a front of what was left, and ends no line
abbrev pub invariant-bytes : goal.invariant-bytes
invariant-bytes g l = record {
  count : length l.text ≡ l._count;
  one : All (λ byte. byte ≢ 10) l.text;
  read : IfSome (g.R.Read.remaining l.fn.reader) (λ left. (rest : List ℕ) × (left ≡ l.text ++ rest) × (g.R.Read.remaining l.reader ≡ Some rest));
}
