-- The keys under which a client acts, and a ring that has them.
use Rattle.std.specs.Prelude.{ℕ, IfSome, IsSome, Option, option_map, List}
use Rattle.auth_keys.specs.declared.ring.RingKey.{RingKey}
use Rattle.auth_keys.specs.Rings.{entry_of}
use Rattle.client_rules.specs.Client.{Client, Temporary}
use Rattle.client_core.specs.Kept.{Contents}

-- a temporary key is to be bound to this permanent key, up to a moment
pub record BoundTo : Type 0 where
  pub perm : ℕ
  pub expires : ℕ

-- the client's key, and what it is to be bound to where it is a temporary one
pub record Keys : Type 0 where
  pub key : ℕ
  pub bound_to : Option BoundTo

abbrev pub bound_to_of : Temporary → BoundTo
bound_to_of temporary = record { perm = temporary.perm; expires = temporary.expires }

abbrev pub keys_of : Client → Keys
keys_of client = record { key = client.key; bound_to = option_map bound_to_of client.temporary }

abbrev pub keys_in : Contents → Keys
keys_in contents = keys_of contents.rest

-- a ring has the client's key, and the permanent one to which that is to be bound
pub record HasKeys (ring : List RingKey) (keys : Keys) : Type 0 where
  pub key : IsSome (entry_of keys.key ring)
  pub perm : IfSome keys.bound_to (λ one. IsSome (entry_of one.perm ring))
