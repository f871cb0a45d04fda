-- What a server reads of the first 64 bytes of an obfuscated connection
-- (core.telegram.org/mtproto/mtproto-transports#transport-obfuscation).
use Rattle.std.specs.Prelude.{◌≡◌, ◌≢◌, ℕ, List, slice_range, Option}
use Rattle.std.specs.Int.{w16, from_le_bytes}
use Rattle.obfus.specs.Starts.{tag_bytes}
use Rattle.obfus.specs.Streams.{up_stream, down_stream, ciphered}
use Rattle.obfus.specs.declared.fault.ObfusFault.{ObfusFault}
use Rattle.obfus.specs.declared.fault.ObfusFault.TheVariants as faults
use Rattle.obfus.specs.declared.init.Pair.{Pair}
use Rattle.obfus.specs.declared.tag.Tag.{Tag}

-- bytes 56 to 59 of what the server deciphers
abbrev pub tag_in : Option (List ℕ) → List ℕ → List ℕ
tag_in secret wire = slice_range (ciphered secret wire) 56 60

-- the number in bytes 60 and 61
abbrev pub dc_in : Option (List ℕ) → List ℕ → ℕ
dc_in secret wire = from_le_bytes w16 (slice_range (ciphered secret wire) 60 62)

-- The bytes carry a tag and a data centre. The up stream goes on behind the 64 bytes, the down stream begins.
pub record Reads (secret : Option (List ℕ)) (wire : List ℕ) (pair : Pair) : Type 0 where
  pub tag : tag_in secret wire ≡ tag_bytes pair.tag
  pub dc : pair.dc ≡ dc_in secret wire
  pub up : pair.up ≡ up_stream secret wire 64
  pub down : pair.down ≡ down_stream secret wire 0

-- they carry none of the tags
pub record IsFaultOf (secret : Option (List ℕ)) (wire : List ℕ) (fault : ObfusFault) : Type 0 where
  pub found : fault ≡ faults.Tag (tag_in secret wire)
  pub none : (tag : Tag) → tag_in secret wire ≢ tag_bytes tag
