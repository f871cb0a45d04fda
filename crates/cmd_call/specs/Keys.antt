-- The keys of a ring under which a client acts (core.telegram.org/api/pfs).
use Rattle.std.specs.Prelude.{ℕ, Option, Some, None, option_map, List}
use Rattle.auth_keys.specs.Rings.{entry_of, kind_in}
use Rattle.auth_keys.specs.declared.key.KeyKind.{KeyKind}
use Rattle.auth_keys.specs.declared.key.KeyKind.TheVariants.{Perm, Temp}
use Rattle.auth_keys.specs.declared.ring.RingKey.{RingKey}
use Rattle.client_core.specs.Keys.{Keys}
use Rattle.client_rules.specs.Client.{Client, fresh_client, temporary_of}

-- how long the key of a ring with this identifier is good, where there is one
abbrev pub kind_at : List RingKey → ℕ → Option KeyKind
kind_at ring id = kind_in (entry_of id ring)

-- under a temporary key that is to be bound to this key, which has to be permanent
abbrev pub bound_to : ℕ → ℕ → ℕ → Option KeyKind → Option Keys
bound_to key expires perm None = None
bound_to key expires perm (Some (Temp other)) = None
bound_to key expires perm (Some Perm) = Some (record { key = key; bound_to = Some (record { perm = perm; expires = expires }) })

-- under a temporary key, by the permanent key that is named, if one is
abbrev pub under_temporary : List RingKey → ℕ → ℕ → Option ℕ → Option Keys
under_temporary ring key expires None = None
under_temporary ring key expires (Some perm) = bound_to key expires perm (kind_at ring perm)

-- under a key of this kind; a permanent one alone is enough
abbrev pub under_key : List RingKey → ℕ → Option ℕ → Option KeyKind → Option Keys
under_key ring key perm None = None
under_key ring key perm (Some Perm) = Some (record { key = key; bound_to = None })
under_key ring key perm (Some (Temp expires)) = under_temporary ring key expires perm

-- The keys for these two identifiers, if the ring has them: the client's key, and, where that is temporary, the permanent one
-- to which it is to be bound.
abbrev pub keys_for : List RingKey → ℕ → Option ℕ → Option Keys
keys_for ring key perm = under_key ring key perm (kind_at ring key)

-- the client under these keys in a session of this number
abbrev pub client_under : Keys → ℕ → Client
client_under keys session = fresh_client keys.key (option_map (λ one. temporary_of one.perm one.expires) keys.bound_to) session
