use Rattle.std.proofs.Common.{◌≤◌, length}
use Rattle.waits.proofs.stamped.prepare.Given as goal

-- there are as many nodes as were counted, and no fewer than before
abbrev pub invariant-loop : goal.invariant-loop
invariant-loop l = (length l.fn.nodes ≤ length l.nodes) × (l.counter ≤ length l.nodes)
