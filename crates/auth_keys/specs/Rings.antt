-- Rings: the keys that a program holds, in order.
use Rattle.std.specs.Prelude.{◌≡◌, ◌≢◌, ℕ, ◌≤◌, ◌==◌, List, [], ◌∷◌, Option, Some, None, if◌then◌else◌, length, All, AllPairs}
use Rattle.auth_keys.specs.Keys.{IsKey, identifier}
use Rattle.auth_keys.specs.declared.key.KeyKind.{KeyKind}
use Rattle.auth_keys.specs.declared.ring.RingKey.{RingKey}

-- how many keys a ring has at most
abbrev pub ring_keys_max : ℕ
ring_keys_max = 64

abbrev pub HaveOtherIdentifiers : RingKey → RingKey → Type 0
HaveOtherIdentifiers one other = identifier one.key ≢ identifier other.key

-- a lawful ring: at most 64 keys, no two with the same identifier
pub record IsRing (ring : List RingKey) : Type 0 where
  pub count : length ring ≤ ring_keys_max
  pub keys : All (λ entry. IsKey entry.key) ring
  pub apart : AllPairs HaveOtherIdentifiers ring

-- the key of a ring with this identifier, and its kind
abbrev pub entry_of : ℕ → List RingKey → Option RingKey
entry_of id [] = None
entry_of id (entry ∷ entries) = if identifier entry.key == id then Some entry else entry_of id entries

-- the kind of the key with this identifier
abbrev pub kind_in : Option RingKey → Option KeyKind
kind_in None = None
kind_in (Some entry) = Some entry.kind

-- the 256 bytes of the key with this identifier
abbrev pub key_in : Option RingKey → Option (List ℕ)
key_in None = None
key_in (Some entry) = Some entry.key
