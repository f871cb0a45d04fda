use Rattle.std.proofs.Common.{◌≡◌, ◌+◌, ◌*◌, ◌++◌, length, take}
use Rattle.std.specs.List.{flat_map}
use Rattle.tl_codec.specs.Spelling.{Int, spelling}
use Rattle.service_tl.specs.Fields.{salt_row}
use Rattle.service_tl.proofs.parts.fill_salts.Given as goal

abbrev pub invariant-loop-row : goal.invariant-loop-row
invariant-loop-row l = record {
  so_far : l.into.bytes ≡ l.fn.into.bytes ++ (spelling Int (length l.rows) ++ flat_map salt_row (take l.row-index l.rows));
  room : l.into.room + (4 + 16 * l.row-index) ≡ l.fn.into.room;
}
