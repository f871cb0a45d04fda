use Rattle.std.proofs.Common.{◌≡◌, ℕ, List, ◌++◌, length, Some, IfSome}
use Rattle.mt_edge.proofs.whole.write_all.Given as goal

-- a front of the text is written, and the rest is still to be
abbrev pub invariant-loop-rest : goal.invariant-loop-rest
invariant-loop-rest g l = record {
  written : IfSome (g.O.Sink.written l.fn.sink) (λ before. (front : List ℕ) × (l.text ≡ front ++ l.rest) × (g.O.Sink.written l.sink ≡ Some (before ++ front)));
  faults : g.O.Sink.faults l.sink ≡ g.O.Sink.faults l.fn.sink;
}

abbrev pub decreases-loop-rest : goal.decreases-loop-rest
decreases-loop-rest g l = length l.rest
