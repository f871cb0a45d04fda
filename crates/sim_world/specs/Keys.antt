-- The keys of a world's clients.
use Rattle.std.specs.Prelude.{IsSome, List}
use Rattle.auth_keys.specs.declared.ring.RingKey.{RingKey}
use Rattle.auth_keys.specs.Rings.{entry_of}
use Rattle.world_rules.specs.Setting.{Keys}

-- The permanent key has the bytes 0 to 255 in order, and so the identifier 32d1586ea457dfc8, the least byte first; the
-- temporary one has them in the other order, and so 96d1b10e8f724a13. It expires at 7,200.
abbrev pub world_keys : Keys
world_keys = record { permanent = 14474384091129631026; temporary = 1390049393749643670; expires = 7200 }

-- a ring has both
pub record HasWorldKeys (ring : List RingKey) : Type 0 where
  pub permanent : IsSome (entry_of world_keys.permanent ring)
  pub temporary : IsSome (entry_of world_keys.temporary ring)
