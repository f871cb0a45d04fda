use Rattle.std.proofs.Common.{◌≡◌, ◌+◌, ◌*◌, ◌++◌, length, take, map}
use Rattle.std.specs.List.{flat_map, AllByRecursion}
use Rattle.tl_codec.specs.Spelling.{Int, spelling}
use Rattle.service_tl.specs.Fields.{salt_row}
use Rattle.service_tl.specs.Sizes.{SaltFits}
use Rattle.server_rules.specs.Rows.{future_salt_of}
use Rattle.server_output.proofs.said.salts.Given as goal

abbrev pub invariant-loop-row : goal.invariant-loop-row
invariant-loop-row l = record {
  so_far : l.into.bytes ≡ l.fn.into.bytes ++ (spelling Int (length l.rows) ++ flat_map salt_row (map future_salt_of (take l.row-index l.rows)));
  room : l.into.room + (4 + 16 * l.row-index) ≡ l.fn.into.room;
  fits : AllByRecursion SaltFits (map future_salt_of (take l.row-index l.rows));
}
