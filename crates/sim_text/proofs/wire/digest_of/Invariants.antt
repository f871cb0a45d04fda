use Rattle.std.proofs.Common.{take}
use Rattle.sha2.specs.Hashers.{Holds256}
use Rattle.sim_text.specs.Bag.{joined}
use Rattle.sim_text.proofs.wire.digest_of.Given as goal

-- the hasher holds the packets so far
abbrev pub invariant-loop-place : goal.invariant-loop-place
invariant-loop-place g l = Holds256 l.hasher (joined (take l.place (g.W.Wire.packets l.wire)))
