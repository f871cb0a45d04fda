-- A server, as it is kept.
use Rattle.std.specs.Prelude.{◌≡◌, ◌≤◌, ℕ, Bool, if◌then◌else◌, List, length, All, IsSome}
use Rattle.auth_keys.specs.declared.ring.RingKey.{RingKey}
use Rattle.auth_keys.specs.Rings.{entry_of}
use Rattle.msg_ids.specs.Moments.{latest_moment}
use Rattle.outbox.specs.Replies.{IsWithin}
use Rattle.waits.specs.Jobs.{AreWithinLimits, Queue, without_session}
use Rattle.server_rules.specs.Server.{Binding, Name, Server, kept_replies, sessions_max}
use Rattle.server_rules.specs.Answer.{room_min}
use Rattle.law_server.specs.Order.{AreOrdered}
use Rattle.server_session.specs.declared.session.SessionState.{SessionState}
use Rattle.server_session.specs.SessionState.{IsAt, key_of, numbers_left}
use Rattle.server_core.specs.Sessions.{AreKept, without_kept}

-- What contracts see of a server: what seals its packets, the greatest moment that it was given, its sessions, the one heard
-- least recently first, the unfinished jobs in order of acceptance, and the bindings.
pub record Kept (S : Type 0) : Type 0 where
  pub seal : S
  pub moment : ℕ
  pub sessions : List SessionState
  pub jobs : Queue
  pub bindings : List Binding

-- A session can speak in an event: its key is there, it has numbers for an event, and its salts were needed at no later
-- moment.
pub record CanSpeak (keys : List RingKey) (moment : ℕ) (standing : SessionState) : Type 0 where
  pub key : IsSome (entry_of (key_of standing) keys)
  pub numbers : room_min ≤ numbers_left standing
  pub at : IsAt moment standing

-- sessions that can speak, and no more than there may be
pub record IsSound (keys : List RingKey) (moment : ℕ) (standings : List SessionState) : Type 0 where
  pub few : length standings ≤ sessions_max
  pub speaking : All (CanSpeak keys moment) standings

-- What is kept matches a server of the definitions, whether that is in order or not; `StandsFor` adds that it is.
pub record Stands {S : Type 0} (kept : Kept S) (server : Server) : Type 0 where
  pub moment : kept.moment ≡ server.now
  -- each session that is kept stands for one of the server's, in order
  pub sessions : AreKept kept.moment kept.sessions server.sessions
  pub jobs : kept.jobs ≡ server.jobs
  pub bindings : kept.bindings ≡ server.bindings

-- What holds of a server between events: it was given a moment that there is, its sessions, replies and jobs fit each
-- other, and no session keeps more replies or has more unfinished jobs than it may.
pub record IsBetweenEvents (server : Server) : Type 0 where
  pub at : server.now ≤ latest_moment
  pub order : AreOrdered server.sessions server.jobs
  pub replies : All (λ session. IsWithin (kept_replies session.replies)) server.sessions
  pub jobs : AreWithinLimits server.jobs

-- It stands for a server of the definitions, which is between events.
pub record StandsFor {S : Type 0} (kept : Kept S) (server : Server) : Type 0 where
  pub stands : Stands kept server
  pub between : IsBetweenEvents server

-- What holds of each server: its sessions can speak in an event, and there is a server of the definitions that it stands for.
pub record IsSteady {S : Type 0} (keys : List RingKey) (kept : Kept S) : Type 0 where
  pub few : length kept.sessions ≤ sessions_max
  pub speaking : All (CanSpeak keys kept.moment) kept.sessions
  pub server : Server
  pub stands_for : StandsFor kept server

-- the sessions and the jobs without those of this name, where this is so

abbrev pub without_kept_where : Bool → Name → List SessionState → List SessionState
without_kept_where so name standings = if so then without_kept name standings else standings

abbrev pub without_jobs_where : Bool → Name → Queue → Queue
without_jobs_where so name jobs = if so then without_session name.key name.session jobs else jobs
