use Rattle.std.proofs.Common.{◌≡◌, ◌≤◌, map, take, drop}
use Rattle.containers.specs.Container.{size_of}
use Rattle.containers.specs.Lent.{message_of}
use Rattle.packing.specs.Packing.{IsPacket, grouped, groups}
use Rattle.packing.proofs.packing.front.Given as goal

abbrev pub invariant-loop-place : goal.invariant-loop-place
invariant-loop-place l = record {
  some : 1 ≤ l.place;
  size : l.bytes ≡ size_of (take l.place (map message_of l.messages));
  packet : IsPacket (take l.place (map message_of l.messages));
  taken : groups (map message_of l.messages) ≡ grouped (take l.place (map message_of l.messages)) (drop l.place (map message_of l.messages));
}
