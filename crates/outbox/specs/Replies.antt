-- The kept replies of a server session: a list in order of making, until each is acknowledged or dropped
-- (core.telegram.org/mtproto/service_messages_about_messages, "Acknowledgment of Receipt"; how many are kept is this
-- project's choice).
use Rattle.std.specs.Prelude.{◌≡◌, ℕ, ◌+◌, ◌≤◌, nat_lt, nat_le, ◌==◌, ◌&&◌, if◌then◌else◌, Bool, Option, None, option_map, List, [], ◌∷◌, ◌++◌, length, drop, sum_by, find, slice_get}
use Rattle.outbox.specs.declared.kept.Kept.{Kept}

-- ---- limits

-- the most replies that are kept
abbrev pub kept_replies_max : ℕ
kept_replies_max = 4096

-- the most bytes of all their bodies together
abbrev pub kept_bytes_max : ℕ
kept_bytes_max = 4194304

-- ---- the list

-- kept replies, the oldest first
abbrev pub Replies : Type 0
Replies = List Kept

-- the bytes of all bodies together
abbrev pub bytes_of : Replies → ℕ
bytes_of replies = sum_by (λ kept. length kept.body) replies

-- the replies are within the limits
pub record IsWithin (replies : Replies) : Type 0 where
  pub count : length replies ≤ kept_replies_max
  pub bytes : bytes_of replies ≤ kept_bytes_max

-- a further reply of this length fits
abbrev pub fits : ℕ → Replies → Bool
fits len replies = nat_lt (length replies) kept_replies_max && nat_le (bytes_of replies + len) kept_bytes_max

-- a further reply stands last
abbrev pub with_kept : Kept → Replies → Replies
with_kept kept replies = replies ++ kept ∷ []

-- where a further reply of this length doesn't fit, the oldest one is dropped
abbrev pub dropped_for : ℕ → Replies → Option Kept
dropped_for len replies = if fits len replies then None else slice_get replies 0

abbrev pub with_room_for : ℕ → Replies → Replies
with_room_for len replies = if fits len replies then replies else drop 1 replies

-- the first reply to this call
abbrev pub by_call : ℕ → Replies → Option Kept
by_call call replies = find (λ kept. kept.call == call) replies

-- the first reply of this number
abbrev pub by_number : ℕ → Replies → Option Kept
by_number number replies = find (λ kept. kept.number == number) replies

-- the others, where that one is taken out
abbrev pub without_number : ℕ → Replies → Replies
without_number number [] = []
without_number number (kept ∷ others) = if kept.number == number then others else kept ∷ without_number number others

-- the call of a reply
abbrev pub call_of : Option Kept → Option ℕ
call_of kept = option_map (λ kept. kept.call) kept

-- no two entries have one key
abbrev pub EachOnce : {X : Type 0} → (X → ℕ) → List X → Type 0
EachOnce key [] = Unit {0}
EachOnce key (x ∷ xs) = (find (λ other. key other == key x) xs ≡ None) × EachOnce key xs

-- no two replies are to one call, and none have one number
pub record AreApart (replies : Replies) : Type 0 where
  pub calls : EachOnce (λ kept. kept.call) replies
  pub numbers : EachOnce (λ kept. kept.number) replies

-- ---- what contracts see

-- the kept replies, and for how many more room is reserved
pub record Contents : Type 0 where
  pub replies : Replies
  pub room : ℕ
