use Rattle.std.proofs.Common.{◌≡◌}
use Rattle.client_core.specs.Holding.{kept_of}
use Rattle.client_core.specs.Keys.{keys_in}
use Rattle.test_cases.proofs.ends.talking.takes_all.Given as goal

-- the client keeps its keys
abbrev pub invariant-loop-packet : goal.invariant-loop-packet
invariant-loop-packet g l = keys_in (kept_of l.holder) ≡ keys_in (kept_of l.fn.holder)
