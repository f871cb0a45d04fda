use Rattle.std.proofs.Common.{◌≡◌, ◌+◌, ◌*◌, ◌++◌, take}
use Rattle.std.specs.List.{flat_map}
use Rattle.byteorder.specs.Endian.{little_bytes}
use Rattle.tl_codec.proofs.fill.numbers.Given as goal

abbrev pub invariant-loop-number : goal.invariant-loop-number
invariant-loop-number l = record {
  so_far : l.into.bytes ≡ l.fn.into.bytes ++ flat_map (little_bytes 8) (take l.number-index l.v);
  room : l.into.room + 8 * l.number-index ≡ l.fn.into.room;
}
