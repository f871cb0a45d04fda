-- Room for what a session owes in an event, where some of its kept replies may be called for: each is said once at most.
use Rattle.std.specs.Prelude.{◌≡◌, ◌≤◌, ◌+◌, ℕ, Bool}
use Rattle.outbox.specs.declared.kept.Kept.{Kept}
use Rattle.server_session.specs.declared.session.SessionState.{SessionState}
use Rattle.server_session.specs.SessionState.{IsAt, key_of, number_of, numbers_left, replies_left}
use Rattle.server_session.specs.Unsaid.{unsaid_bytes, unsaid_count}
use Rattle.server_dispatch.specs.declared.turn.Turn.{Turn}

-- There is so much room at least, for messages with their numbers, bytes of bodies, entries and further kept replies; and
-- beside it that for the kept replies which are called for and which the session hasn't said in the event.
pub record HasSpare (called : Kept → Bool) (messages size answers kept : ℕ) (standing : SessionState) (turn : Turn) : Type 0 where
  pub places : messages + unsaid_count called standing turn.owing ≤ turn.owing.places
  pub bytes : size + unsaid_bytes called standing turn.owing ≤ turn.owing.room
  pub numbers : messages ≤ numbers_left standing
  pub entries : answers ≤ turn.entries.room
  pub replies : kept ≤ replies_left standing

-- What a step of a session uses up of that at most. What was taken, and the session's names, stay.
pub record Uses (called : Kept → Bool) (now messages size answers kept : ℕ) (standing : SessionState) (turn : Turn) (after : SessionState) (left : Turn) : Type 0 where
  pub places : turn.owing.places + unsaid_count called after left.owing ≤ left.owing.places + messages + unsaid_count called standing turn.owing
  pub bytes : turn.owing.room + unsaid_bytes called after left.owing ≤ left.owing.room + size + unsaid_bytes called standing turn.owing
  pub numbers : numbers_left standing ≤ numbers_left after + messages
  pub entries : turn.entries.room ≤ left.entries.room + answers
  pub replies : replies_left standing ≤ replies_left after + kept
  pub places_taken : left.owing.places_taken ≡ turn.owing.places_taken
  pub bytes_taken : left.owing.bytes_taken ≡ turn.owing.bytes_taken
  pub key : key_of after ≡ key_of standing
  pub number : number_of after ≡ number_of standing
  pub at : IsAt now standing → IsAt now after
