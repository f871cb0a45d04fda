-- The kept replies that a session hasn't said in an event so far: what it may need room for, since each is said once.
use Rattle.std.specs.Prelude.{◌≡◌, ◌≤◌, ◌==◌, ℕ, Bool, true, if◌then◌else◌, None, List, [], ◌∷◌, length, find, sum_by}
use Rattle.std.specs.List.{list_any}
use Rattle.service_tl.specs.declared.lists.Message.{Message}
use Rattle.outbox.specs.declared.kept.Kept.{Kept}
use Rattle.outbox.specs.Replies.{Replies, kept_bytes_max, kept_replies_max}
use Rattle.server_output.specs.Dues.{Dues, has_number}
use Rattle.server_session.specs.declared.calling.Called.{Called}
use Rattle.server_session.specs.declared.session.SessionState.{SessionState}

-- the weights of those whose numbers no message has
abbrev pub unsaid_weight : (Kept → ℕ) → List Message → Replies → ℕ
unsaid_weight weight messages replies = sum_by (λ kept. if has_number kept.number messages then 0 else weight kept) replies

-- ---- replies that are called for

-- the reply to this call, the one of this number, and those of these numbers

abbrev pub is_to : ℕ → Kept → Bool
is_to call kept = kept.call == call

abbrev pub is_numbered : ℕ → Kept → Bool
is_numbered number kept = kept.number == number

abbrev pub is_among : List ℕ → Kept → Bool
is_among numbers kept = list_any (λ number. kept.number == number) numbers

-- all that the one calls for the other does too
abbrev pub CallsFor : (Kept → Bool) → (Kept → Bool) → Type 0
CallsFor called more = (kept : Kept) → called kept ≡ true → more kept ≡ true

-- the weight of one where it is called for
abbrev pub called_weight : (Kept → Bool) → (Kept → ℕ) → Kept → ℕ
called_weight called weight kept = if called kept then weight kept else 0

-- how many of them weren't said, and how many bytes their bodies have together

abbrev pub unsaid_count : (Kept → Bool) → SessionState → Dues → ℕ
unsaid_count called standing owing = unsaid_weight (called_weight called (λ kept. 1)) owing.messages standing.outbox.replies

abbrev pub unsaid_bytes : (Kept → Bool) → SessionState → Dues → ℕ
unsaid_bytes called standing owing = unsaid_weight (called_weight called (λ kept. length kept.body)) owing.messages standing.outbox.replies

-- So many are kept of those that are called for at most, whose bodies have so many bytes together at most, and no more than a
-- session can keep.
pub record IsCalled (called : Kept → Bool) (standing : SessionState) (most : Called) : Type 0 where
  pub count : sum_by (called_weight called (λ kept. 1)) standing.outbox.replies ≤ most.count
  pub bytes : sum_by (called_weight called (λ kept. length kept.body)) standing.outbox.replies ≤ most.bytes
  pub few : most.count ≤ kept_replies_max
  pub short : most.bytes ≤ kept_bytes_max

-- each number that was said stays said
abbrev pub StaySaid : List Message → List Message → Type 0
StaySaid before after = (number : ℕ) → has_number number before ≡ true → has_number number after ≡ true

-- what may still be said of the kept replies is no more afterwards, whichever are called for
pub record NoMoreUnsaid (standing : SessionState) (owing : Dues) (after : SessionState) (left : Dues) : Type 0 where
  pub count : (called : Kept → Bool) → unsaid_count called after left ≤ unsaid_count called standing owing
  pub bytes : (called : Kept → Bool) → unsaid_bytes called after left ≤ unsaid_bytes called standing owing

-- Scaffolding, and no promise: what the contracts of private functions cite.

-- of the kept replies some stay, whatever was said and whatever each weighs
abbrev pub FewerKept : SessionState → SessionState → Type 0
FewerKept standing after =
    (weight : Kept → ℕ) (messages : List Message)
    → unsaid_weight weight messages after.outbox.replies ≤ unsaid_weight weight messages standing.outbox.replies

-- at most one of them passes
abbrev pub PassesOnce : (Kept → Bool) → Replies → Type 0
PassesOnce test [] = Unit {0}
PassesOnce test (kept ∷ replies) = (test kept ≡ true → find test replies ≡ None) × PassesOnce test replies
