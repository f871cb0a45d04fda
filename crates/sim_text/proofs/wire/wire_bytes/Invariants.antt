use Rattle.std.proofs.Common.{◌≡◌, ◌*◌, ◌≤◌, ◌^◌, length, take}
use Rattle.sim_text.specs.Bag.{joined}
use Rattle.sim_text.proofs.wire.wire_bytes.Given as goal

-- the length of the packets so far, each of which is shorter than 2^64
abbrev pub invariant-loop-place : goal.invariant-loop-place
invariant-loop-place g l = (l.bytes ≡ length (joined (take l.place (g.W.Wire.packets l.wire)))) × (l.bytes ≤ l.place * 2 ^ 64)
