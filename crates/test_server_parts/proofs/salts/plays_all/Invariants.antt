use Rattle.std.proofs.Common.{◌≤◌}
use Rattle.test_server_parts.proofs.salts.plays_all.Given as goal

-- the line was given no moment behind the latest
abbrev pub invariant-loop-row : goal.invariant-loop-row
invariant-loop-row l = l.line.latest ≤ l.latest
