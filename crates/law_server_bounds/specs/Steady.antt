-- What a server keeps between events, by which each packet that it makes may be sealed
-- (core.telegram.org/mtproto/description, "Encrypted Message").
use Rattle.std.specs.Prelude.{◌≡◌, ◌<◌, ◌≤◌, ◌^◌, ⊤, ℕ, Bool, true, Some, length}
use Rattle.std.specs.List.{All, AllByRecursion}
use Rattle.msg_ids.specs.Counters.{room}
use Rattle.msg_ids.specs.Moments.{latest_moment}
use Rattle.envelope.specs.Packet.{IsPadding}
use Rattle.outbox.specs.Replies.{IsWithin}
use Rattle.regs_service.specs.Served.{Step}
use Rattle.waits.specs.declared.job.Job.{Job}
use Rattle.waits.specs.Jobs.{AreWithinLimits, ready_job}
use Rattle.server_rules.specs.Server.{Server, Session, kept_replies}
use Rattle.server_rules.specs.Event.{Sent}
use Rattle.server_rules.specs.Events.{Course, Event, Packet, Work}
use Rattle.law_server_bounds.specs.Small.{AreSmall, IsContent, IsSmallEnvelope, IsWhole}

-- ---- what is kept

-- the session is under a known key
abbrev pub IsKnown : (ℕ → Bool) → Session → Type 0
IsKnown known session = known session.key ≡ true

-- A server between two events. Its moment is no later than the latest; what it keeps fits its places; each session has room for
-- 16,384 further numbers, and keeps 4,096 replies at most; there are 4,096 jobs at most of each session; and sessions are under
-- known keys.
pub record IsSteady (known : ℕ → Bool) (server : Server) : Type 0 where
  pub now : server.now ≤ latest_moment
  pub kept : AreSmall server.sessions server.jobs
  pub room : All (λ session. 16384 ≤ room session.counters) server.sessions
  pub replies : All (λ session. IsWithin (kept_replies session.replies)) server.sessions
  pub jobs : AreWithinLimits server.jobs
  pub keys : AllByRecursion (IsKnown known) server.sessions

-- ---- what comes

-- An envelope that comes fits its places and is under a known key; the reply of the job that is run, where one is, is whole
-- words of bytes, and short.
abbrev pub IsFair : {S V : Type 0} → (ℕ → Bool) → Step V → Course S V → Event → Type 0
IsFair known serve course (Packet moment (Some envelope)) = IsSmallEnvelope envelope × (known envelope.key ≡ true)
IsFair known serve course (Work moment place) =
    (job : Job) → ready_job place course.server.jobs ≡ Some job → IsContent (serve course.service job.request).0
IsFair known serve course _ = ⊤

-- ---- what goes

-- a packet that may be sealed under a known key
pub record IsSealable (known : ℕ → Bool) (sent : Sent) : Type 0 where
  pub whole : IsWhole sent.envelope
  pub number : sent.envelope.number < 2 ^ 64
  pub seq : sent.envelope.seq < 2 ^ 32
  pub key : known sent.envelope.key ≡ true
  pub padded : IsPadding (length sent.envelope.body) sent.padding
