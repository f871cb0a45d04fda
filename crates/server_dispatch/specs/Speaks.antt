-- One session of a server within an event, as it is kept: it stands for a speaker of the rules.
use Rattle.std.specs.Prelude.{◌≡◌, ◌≤◌, ◌+◌, ℕ, List}
use Rattle.waits.specs.Jobs.{Queue}
use Rattle.server_rules.specs.Server.{Binding}
use Rattle.server_rules.specs.Event.{Speaker}
use Rattle.server_session.specs.declared.session.SessionState.{SessionState}
use Rattle.server_session.specs.SessionState.{IsAt, key_of, number_of, numbers_left}
use Rattle.server_session.specs.Says.{Says}
use Rattle.server_dispatch.specs.declared.turn.Turn.{Turn}
use Rattle.server_dispatch.specs.declared.speaking.Speaking.{Speaking}

-- What is kept of a session, what it owes and records so far in an event, the jobs, the bindings and the draw are those of
-- a speaker.
pub record Speaks {S : Type 0} (now : ℕ) (standing : SessionState) (turn : Turn) (queue : Queue) (bound : List Binding) (draw : S) (speaker : Speaker S) : Type 0 where
  pub says : Says now standing turn.owing draw speaker
  pub jobs : queue ≡ speaker.jobs
  pub bindings : bound ≡ speaker.bindings
  pub entries : turn.entries.entries ≡ speaker.entries

-- a session with all of these is that speaker
abbrev pub IsSpokenBy : {S : Type 0} → ℕ → Speaking → S → Speaker S → Type 0
IsSpokenBy now speaking draw speaker = Speaks now speaking.standing speaking.turn speaking.jobs.jobs speaking.bindings.bindings draw speaker

-- What a step of a session uses up at most of the room that was taken before: places for so many messages, which each have
-- a number of the session, with so many bytes of bodies, and so many places for entries. What was taken, and the session's
-- names, stay.
pub record Spends (now messages size answers : ℕ) (standing : SessionState) (turn : Turn) (after : SessionState) (left : Turn) : Type 0 where
  pub places : turn.owing.places ≤ left.owing.places + messages
  pub bytes : turn.owing.room ≤ left.owing.room + size
  pub numbers : numbers_left standing ≤ numbers_left after + messages
  pub entries : turn.entries.room ≤ left.entries.room + answers
  pub places_taken : left.owing.places_taken ≡ turn.owing.places_taken
  pub bytes_taken : left.owing.bytes_taken ≡ turn.owing.bytes_taken
  pub key : key_of after ≡ key_of standing
  pub number : number_of after ≡ number_of standing
  pub at : IsAt now standing → IsAt now after

-- there is so much room at least: for so many messages with their numbers, so many bytes of bodies, so many entries
pub record HasRoom (messages size answers : ℕ) (standing : SessionState) (turn : Turn) : Type 0 where
  pub places : messages ≤ turn.owing.places
  pub bytes : size ≤ turn.owing.room
  pub numbers : messages ≤ numbers_left standing
  pub entries : answers ≤ turn.entries.room
