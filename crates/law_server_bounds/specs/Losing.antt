-- Why a session is lost (core.telegram.org/mtproto/service_messages, "Request to Destroy Session"; how many sessions a server
-- has, and how many further numbers each needs room for, is this project's choice).
use Rattle.std.specs.Prelude.{◌≡◌, ◌≢◌, ◌≤◌, ◌⊎◌, ⊤, ℕ, true, Option, Some, None, List, ◌∷◌, Contains, length}
use Rattle.service_tl.specs.declared.item.Item.TheVariants.{DestroySession}
use Rattle.inbox.specs.Verdicts.{Judgement, Accepted}
use Rattle.inbox.specs.Judging.{judgements}
use Rattle.inbox.specs.Refusals.{InEnvelope}
use Rattle.regs_service.specs.Served.{Step}
use Rattle.waits.specs.declared.job.Job.{Job}
use Rattle.waits.specs.Jobs.{ready_job}
use Rattle.server_rules.specs.Server.{Name, Server, Session, name_of, remembered, session_named}
use Rattle.server_rules.specs.Event.{Envelope, Setting, State, speaks}
use Rattle.server_rules.specs.Sending.{all_sent}
use Rattle.server_rules.specs.Answer.{attaches, begun, hears, is_spent, message_in, name_in, runs, takes, ticks}
use Rattle.server_rules.specs.Events.{Course, Event, Packet, Work, Tick, Attach, Loss, Restart, setting_at}

-- one of these sessions has this name, and no room for a further event
abbrev pub IsSpentAmong : Name → List Session → Type 0
IsSpentAmong name sessions = (session : Session) × Contains sessions session × (name_of session ≡ name) × (is_spent session ≡ true)

-- It gives its place to the session that a packet makes: 256 stand, and it was heard least recently.
pub record GivesPlace (envelope : Envelope) (server : Server) (name : Name) : Type 0 where
  pub made : session_named (name_in envelope) server.sessions ≡ None
  pub full : 256 ≤ length server.sessions
  pub first : (session : Session) × (others : List Session) × (server.sessions ≡ session ∷ others) × (name_of session ≡ name)

-- Another session of its key accepts a message of this packet that asks to destroy it.
pub record IsDestroyed {S : Type 0} (setting : Setting S) (envelope : Envelope) (server : Server) (draw : S) (name : Name) : Type 0 where
  pub key : envelope.key ≡ name.key
  pub apart : name_in envelope ≢ name
  pub session : Session
  pub heard : session_named (name_in envelope) (hears setting envelope (begun server draw)).sessions ≡ Some session
  pub judgement : Judgement
  pub judged : Contains (judgements (InEnvelope setting.now session.salts envelope.salt) (remembered session) (message_in envelope)) judgement
  pub asked : judgement.verdict ≡ Accepted (DestroySession name.session)

-- what work on this job does, where there is one, before all is sent
abbrev pub runs_of : {S V : Type 0} → Setting S → ℕ → Option Job → Step V → V → State S → State S
runs_of setting place None serve service state = state
runs_of setting place (Some job) serve service state = runs setting place job (serve service job.request).0 state

-- The session of this name is lost in this event: by a loss or a restart; by a packet that makes a session in its place, or that
-- destroys it; else for want of room, when all is sent.
abbrev pub IsLostIn : {S V : Type 0} → Setting S → Step V → Course S V → Name → Event → Type 0
IsLostIn setting serve course name (Packet moment None) = ⊥
IsLostIn setting serve course name (Packet moment (Some envelope)) =
    let at = setting_at setting moment course.server in
    GivesPlace envelope course.server name
    ⊎ (IsDestroyed at envelope course.server course.draw name
    ⊎ IsSpentAmong name (all_sent at (takes at envelope (begun course.server course.draw))).sessions)
IsLostIn setting serve course name (Work moment place) =
    let at = setting_at setting moment course.server in
    IsSpentAmong name
    (all_sent at (runs_of at place (ready_job place course.server.jobs) serve course.service (begun course.server course.draw))).sessions
IsLostIn setting serve course name (Tick moment) =
    let at = setting_at setting moment course.server in
    IsSpentAmong name (all_sent at (ticks at (begun course.server course.draw))).sessions
IsLostIn setting serve course name (Attach moment other) =
    let at = setting_at setting moment course.server in
    IsSpentAmong name (all_sent at (speaks other (attaches at) (begun course.server course.draw))).sessions
IsLostIn setting serve course name (Loss other) = other ≡ name
IsLostIn setting serve course name Restart = ⊤
