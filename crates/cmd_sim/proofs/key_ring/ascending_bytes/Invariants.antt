use Rattle.std.proofs.Common.{◌≡◌, take, length}
use Rattle.cmd_sim.specs.KeysOfSim.{numbers_from}
use Rattle.cmd_sim.proofs.key_ring.ascending_bytes.Given as goal

-- the bytes up to here are written
abbrev pub invariant-loop-place : goal.invariant-loop-place
invariant-loop-place l = record {
  size : length l.bytes ≡ 256;
  written : take l.place l.bytes ≡ take l.place (numbers_from 0 256);
}
