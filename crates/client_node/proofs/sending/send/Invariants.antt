use Rattle.std.proofs.Common.{◌≡◌, ℕ, List, ◌++◌, length, IfSome, IsSome, IsSomeAnd}
use Rattle.client_node.specs.Writes.{Wrote}
use Rattle.client_node.proofs.sending.send.Given as goal

-- a front of the piece is written, and the rest is still to be
abbrev pub invariant-loop-rest : goal.invariant-loop-rest
invariant-loop-rest g l = record {
  written : (front : List ℕ) × (l.piece ≡ front ++ l.rest) × IfSome (g.L.Link.told l.link) (λ after. IsSomeAnd (g.L.Link.told l.fn.link) (λ before. Wrote front before after));
  goes_on : IsSome (g.L.Link.told l.fn.link) → IsSome (g.L.Link.told l.link);
  place : g.L.Link.standing l.link ≡ g.L.Link.standing l.fn.link;
  faults : g.L.Link.faults l.link ≡ g.L.Link.faults l.fn.link;
}

abbrev pub decreases-loop-rest : goal.decreases-loop-rest
decreases-loop-rest g l = length l.rest
