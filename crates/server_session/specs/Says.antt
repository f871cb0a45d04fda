-- A session that speaks within an event.
use Rattle.std.specs.Prelude.{◌≡◌, ℕ, Bool, Option}
use Rattle.server_output.specs.Dues.{Dues}
use Rattle.server_rules.specs.Server.{Binding, Name, name_of}
use Rattle.server_rules.specs.Event.{BindingCall, Setting, Speaker}
use Rattle.server_rules.specs.Sending.{messages_by}
use Rattle.server_session.specs.declared.session.SessionState.{SessionState}
use Rattle.server_session.specs.SessionState.{Stands}

-- which keys are temporary, and what a binding call binds where it is right
pub record Keys : Type 0 where
  pub is_temporary : ℕ → Bool
  pub bound_by : ℕ → Name → BindingCall → Option Binding

-- the setting of an event at this moment, with words drawn so and these keys
abbrev pub setting_of : {S : Type 0} → ℕ → (S → ℕ × S) → Keys → Setting S
setting_of now step keys = record { now = now; step = step; is_temporary = keys.is_temporary; bound_by = keys.bound_by }

-- What is kept of a session, what it owes so far in an event and the draw are those of a speaker.
pub record Says {S : Type 0} (now : ℕ) (standing : SessionState) (owing : Dues) (draw : S) (speaker : Speaker S) : Type 0 where
  pub stands : Stands now standing speaker.session
  pub owed : owing.messages ≡ messages_by (name_of speaker.session) speaker.owed
  pub draws : draw ≡ speaker.draw
