use Rattle.std.proofs.Common.{◌≡◌, ◌+◌, ℕ, List, ◌++◌, length, Some, IfSome, IsSomeAnd}
use Rattle.std.specs.List.{All}
use Rattle.mt_edge.specs.declared.source.Got.{Got}
use Rattle.mt_edge.specs.Reads.{IsPiece}
use Rattle.mt_edge.proofs.whole.read_all.Given as goal

-- the text so far is the front of what was left, and the room is what the text may still grow by
abbrev pub invariant-loop-count : goal.invariant-loop-count
invariant-loop-count g l = record {
  room : length l.text + l.room ≡ l.max_bytes;
  read : IfSome (g.S.Source.left l.fn.source) (λ left. (rest : List ℕ) × (left ≡ l.text ++ rest) × (g.S.Source.left l.source ≡ Some rest));
  reads : IfSome (g.S.Source.reads l.source) (λ after. IsSomeAnd (g.S.Source.reads l.fn.source) (λ before. (pieces : List Got) × (after ≡ before ++ pieces) × All IsPiece pieces));
  faults : g.S.Source.faults l.source ≡ g.S.Source.faults l.fn.source;
}

abbrev pub decreases-loop-count : goal.decreases-loop-count
decreases-loop-count g l = l.room
