-- One event of a server: in what it stands, and what it has done so far.
use Rattle.std.specs.Prelude.{ℕ, Bool, Option, Some, None, List}
use Rattle.service_tl.specs.declared.lists.Message.{Message}
use Rattle.waits.specs.Jobs.{Queue, without_session as without_jobs_of}
use Rattle.server_rules.specs.Server.{Session, Binding, Name, session_named, with_session, without_session}

-- a call of the service that was answered: by a run, or in place of one
pub record Entry : Type 0 where
  pub key : ℕ
  pub session : ℕ
  pub number : ℕ
  pub request : List ℕ
  pub reply : List ℕ
  pub ran : Bool

-- the fields of `auth.bindTempAuthKey` with the number of its message
pub record BindingCall : Type 0 where
  pub number : ℕ
  pub perm : ℕ
  pub nonce : ℕ
  pub expires : ℕ
  pub message : List ℕ

-- in what an event stands: its moment, how words are drawn, which keys are temporary, and what a binding call in a
-- session binds at a moment, where it is right
pub record Setting (S : Type 0) : Type 0 where
  pub now : ℕ
  pub step : S → ℕ × S
  pub is_temporary : ℕ → Bool
  pub bound_by : ℕ → Name → BindingCall → Option Binding

-- a message that a session owes
pub record Owed : Type 0 where
  pub name : Name
  pub message : Message

-- what a packet has in it
pub record Envelope : Type 0 where
  pub key : ℕ
  pub salt : ℕ
  pub session : ℕ
  pub number : ℕ
  pub seq : ℕ
  pub body : List ℕ

-- a packet that a session sends: its envelope and its padding
pub record Sent : Type 0 where
  pub envelope : Envelope
  pub padding : List ℕ

-- an event so far: the sessions, jobs and bindings, the draw, the messages owed in order, the packets made of them, and
-- the entries
pub record State (S : Type 0) : Type 0 where
  pub sessions : List Session
  pub jobs : Queue
  pub bindings : List Binding
  pub draw : S
  pub owed : List Owed
  pub sent : List Sent
  pub entries : List Entry

-- an event as one of its sessions sees it, which speaks
pub record Speaker (S : Type 0) : Type 0 where
  pub session : Session
  pub jobs : Queue
  pub bindings : List Binding
  pub draw : S
  pub owed : List Owed
  pub sent : List Sent
  pub entries : List Entry

-- the session begins to speak, and what it did is the event's
abbrev pub speaker_in : {S : Type 0} → State S → Session → Speaker S
speaker_in state session =
    record {
      session = session;
      jobs = state.jobs;
      bindings = state.bindings;
      draw = state.draw;
      owed = state.owed;
      sent = state.sent;
      entries = state.entries;
    }

abbrev pub spoken : {S : Type 0} → State S → Speaker S → State S
spoken state speaker =
    record {
      sessions = with_session speaker.session state.sessions;
      jobs = speaker.jobs;
      bindings = speaker.bindings;
      draw = speaker.draw;
      owed = speaker.owed;
      sent = speaker.sent;
      entries = speaker.entries;
    }

abbrev pub spoken_by : {S : Type 0} → Option Session → (Speaker S → Speaker S) → State S → State S
spoken_by None speak state = state
spoken_by (Some session) speak state = spoken state (speak (speaker_in state session))

-- the session of this name speaks
abbrev pub speaks : {S : Type 0} → Name → (Speaker S → Speaker S) → State S → State S
speaks name speak state = spoken_by (session_named name state.sessions) speak state

-- a session is lost with its jobs
abbrev pub lost : {S : Type 0} → Name → State S → State S
lost name state =
    record state { sessions = without_session name state.sessions; jobs = without_jobs_of name.key name.session state.jobs }
