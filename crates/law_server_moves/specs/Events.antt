-- An event of a server as it is so far, as it stands in a world of the law on moves.
use Rattle.std.specs.Prelude.{◌≡◌, ◌⊎◌, ⊤, true, false, List, [], ◌∷◌, ◌++◌, map}
use Rattle.std.specs.List.{AllByRecursion, Contains, flat_map}
use Rattle.salt_line.specs.Rows.{Row}
use Rattle.salt_line.specs.Line.{Line}
use Rattle.waits.specs.declared.job.Job.{Job}
use Rattle.waits.specs.declared.job.Unfinished.{Unfinished}
use Rattle.waits.specs.Jobs.{Queue, is_of}
use Rattle.server_rules.specs.Server.{Name, Session, name_of}
use Rattle.server_rules.specs.Event.{State}
use Rattle.world_rules.specs.World.{has_named}
use Rattle.law_moves.specs.World.{World}
use Rattle.law_server_moves.specs.Servers.{AreNewSalts, Past, ServerStands, with_entries}
use Rattle.law_server_moves.specs.Speaking.{IsOpen, IsOwedThere, with_line}

-- each session with the line of salts that it has, by its name, at the event's end
abbrev pub with_lines : (Name → Line) → List Session → List Session
with_lines lines sessions = map (λ session. with_line (lines (name_of session)) session) sessions

-- The server stands there with the sessions, jobs and entries that the event has so far, and each session can say what it owes.
pub record EventStands {S : Type 0} (w : World) (past : Past) (lines : Name → Line) (state : State S) : Type 0 where
  pub stands : ServerStands w (with_entries state.entries past) (with_lines lines state.sessions) state.jobs
  pub owed : AllByRecursion (λ session. AllByRecursion (IsOwedThere w session) state.owed) (with_lines lines state.sessions)

-- ---- sessions that are lost

-- Of these sessions some are lost by now, each as it is told here; the name of none of them is one of a session that is
-- there, and those of the others are.
pub record AreLost (told : Session → Session) (from now more : List Session) : Type 0 where
  pub each : AllByRecursion (λ one. (session : Session) × Contains from session × (one ≡ told session) × (has_named (name_of session) now ≡ false)) more
  pub others : AllByRecursion (λ session. (has_named (name_of session) now ≡ true) ⊎ Contains more (told session)) from

-- with its line
abbrev pub lined : (Name → Line) → Session → Session
lined lines session = with_line (lines (name_of session)) session

-- ---- jobs

-- each job of the session's has no reply
abbrev pub AreUnanswered : Queue → Session → Type 0
AreUnanswered jobs session =
    AllByRecursion (λ (one : Unfinished). is_of session.key session.number one ≡ true → IsOpen one.job.number session.replies) jobs

-- a job is the same call as another
abbrev pub IsSameCall : Job → Unfinished → Type 0
IsSameCall job other = (job.key ≡ other.job.key) × (job.session ≡ other.job.session) × (job.number ≡ other.job.number)

abbrev pub IsNoneOf : Queue → Job → Type 0
IsNoneOf jobs job = AllByRecursion (λ other. IsSameCall job other → ⊥) jobs

abbrev pub AreCallsApart : Queue → Type 0
AreCallsApart [] = ⊤
AreCallsApart (one ∷ jobs) = IsNoneOf jobs one.job × AreCallsApart jobs

-- no job is answered, and no two are one call
pub record AreOpenJobs (sessions : List Session) (jobs : Queue) : Type 0 where
  pub unanswered : AllByRecursion (AreUnanswered jobs) sessions
  pub apart : AreCallsApart jobs

-- ---- salts

-- What each session draws in an event, by its name: its line has these rows more at the event's end. All their words are
-- new ones, and differ.
pub record AreLines (w : World) (lines : Name → Line) (more : Name → List Row) (sessions : List Session) : Type 0 where
  pub ahead : AllByRecursion (λ session. lines (name_of session) ≡ record session.salts { rows = session.salts.rows ++ more (name_of session) }) sessions
  pub new : AreNewSalts w (flat_map (λ session. more (name_of session)) sessions)
