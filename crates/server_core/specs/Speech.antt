-- What one session says in an event, in room that was taken before.
use Rattle.std.specs.Prelude.{◌≡◌, ◌≤◌, ℕ, ◌+◌, []}
use Rattle.outbox.specs.Replies.{kept_bytes_max, kept_replies_max}
use Rattle.server_output.specs.Batch.{packets_most}
use Rattle.server_output.specs.Items.{new_session_bytes}
use Rattle.server_rules.specs.Event.{Setting, Speaker}
use Rattle.server_rules.specs.Answer.{attaches}
use Rattle.server_session.specs.declared.session.SessionState.{SessionState}
use Rattle.server_session.specs.SessionState.{Stands}
use Rattle.server_session.specs.Repeats.{kept_bytes, kept_count}
use Rattle.server_core.specs.declared.speech.Speech.{Speech}
use Rattle.server_core.specs.One.{says_its_own}

-- there is room for so many messages, whose bodies have so many bytes together, and nothing was said yet
pub record IsRoomFor (messages bytes : ℕ) (speech : Speech) : Type 0 where
  pub owing : speech.owing ≡ record { messages = []; places = messages; room = bytes; places_taken = messages; bytes_taken = bytes }
  pub packets : speech.packets ≡ record { messages = messages; bytes = bytes }
  pub outs : speech.outs ≡ record { outs = []; room = packets_most messages bytes }

-- there is room for all that a session says when a connection is opened for it: that it is new, and all kept replies
pub record CanAttach (standing : SessionState) (speech : Speech) : Type 0 where
  pub room : IsRoomFor (kept_count standing + 1) (kept_bytes standing + new_session_bytes) speech
  pub few : kept_count standing ≤ kept_replies_max
  pub short : kept_bytes standing ≤ kept_bytes_max

-- a session after a connection was opened for it, and after all that it owes then went out
abbrev pub attached : {S : Type 0} → Setting S → Speaker S → Speaker S
attached setting speaker = says_its_own setting (attaches setting speaker)

-- What is kept of a session, as an event begins, is that of a speaker, who owes and has sent nothing.
pub record Begins {S : Type 0} (moment : ℕ) (standing : SessionState) (draw : S) (speaker : Speaker S) : Type 0 where
  pub stands : Stands moment standing speaker.session
  pub draws : draw ≡ speaker.draw
  pub owed : speaker.owed ≡ []
  pub sent : speaker.sent ≡ []
