use Rattle.std.proofs.Common.{◌≡◌, ◌++◌, length, drop}
use Rattle.std.specs.List.{flat_map}
use Rattle.containers.specs.Container.{container_of, row}
use Rattle.containers.proofs.packing.container.Given as goal

abbrev pub invariant-loop-message : goal.invariant-loop-message
invariant-loop-message l = record {
  so_far : l.buffer.bytes ++ flat_map row (drop l.message-index l.messages) ≡ l.fn.into ++ container_of l.messages;
  room : l.buffer.room ≡ length (flat_map row (drop l.message-index l.messages));
}
