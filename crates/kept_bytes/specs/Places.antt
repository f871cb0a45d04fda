-- Scaffolding, no promise: the bytes that are here or there.
use Rattle.std.specs.Prelude.{ℕ, List}
use Rattle.kept_bytes.specs.declared.kept.Place.{Place}
use Rattle.kept_bytes.specs.declared.kept.Place.TheVariants as place

abbrev pub bytes_at : Place → List ℕ
bytes_at (place.Here bytes) = bytes
bytes_at (place.There bytes) = bytes
