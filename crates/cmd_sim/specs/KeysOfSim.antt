-- The keys of the world of `sim`.
use Rattle.std.specs.Prelude.{ℕ, zero, suc, codes, List, [], ◌∷◌, ◌++◌, reverse}
use Rattle.hex.specs.Hex.{encode_lower}
use Rattle.auth_keys.specs.declared.key.KeyKind.TheVariants.{Perm, Temp}
use Rattle.auth_keys.specs.declared.ring.RingKey.{RingKey}

-- so many numbers, one after the other from this one on
abbrev pub numbers_from : ℕ → ℕ → List ℕ
numbers_from first zero = []
numbers_from first (suc count) = first ∷ numbers_from (suc first) count

-- the bytes 0 to 255, and 255 to 0
unfoldable pub ascending : List ℕ
ascending = numbers_from 0 256

unfoldable pub descending : List ℕ
descending = reverse ascending

-- The permanent key has the first of these, and the temporary one the others. It expires at 7,200.
unfoldable pub sim_ring : List RingKey
sim_ring = record { key = ascending; kind = Perm } ∷ record { key = descending; kind = Temp 7200 } ∷ []

-- the key file of keys of these digits, and of these two
abbrev pub file_of : List ℕ → List ℕ → List ℕ
file_of permanent temporary = codes "perm " ++ permanent ++ codes "\ntemp 7200 " ++ temporary ++ codes "\n"

unfoldable pub key_file : List ℕ
key_file = file_of (encode_lower ascending) (encode_lower descending)
