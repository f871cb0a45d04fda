use Rattle.std.proofs.Common.{◌≡◌, ◌+◌, ◌++◌, length, drop, map}
use Rattle.std.specs.List.{flat_map}
use Rattle.containers.specs.Container.{container_of, row, size_of}
use Rattle.containers.specs.Lent.{message_of}
use Rattle.containers.proofs.packing.container_into.Given as goal

abbrev pub invariant-loop-part : goal.invariant-loop-part
invariant-loop-part l = record {
  so_far : l.buffer.bytes ++ flat_map (λ part. row (message_of part)) (drop l.part-index l.parts) ≡ l.fn.buffer.bytes ++ container_of (map message_of l.parts);
  room : l.buffer.room + size_of (map message_of l.parts) ≡ l.fn.buffer.room + length (flat_map (λ part. row (message_of part)) (drop l.part-index l.parts));
}
