-- Scaffolding, and no promise: what is kept of sessions that may be lost.
use Rattle.std.specs.Prelude.{ℕ, nat_lt, Bool, List, IsSome}
use Rattle.auth_keys.specs.declared.ring.RingKey.{RingKey}
use Rattle.auth_keys.specs.Rings.{entry_of}
use Rattle.server_rules.specs.Answer.{room_min}
use Rattle.server_session.specs.declared.session.SessionState.{SessionState}
use Rattle.server_session.specs.SessionState.{IsAt, key_of, numbers_left}

-- it has no room for the numbers of a further event
abbrev pub is_spent_kept : SessionState → Bool
is_spent_kept standing = nat_lt (numbers_left standing) room_min

-- its key is there, and its salts were needed at no later moment
pub record IsHere (ring : List RingKey) (now : ℕ) (standing : SessionState) : Type 0 where
  pub key : IsSome (entry_of (key_of standing) ring)
  pub at : IsAt now standing
