-- So does each event of a course, and all events.
use Rattle.std.proofs.Common.{ℕ, zero, suc, cond, Option, Some, None, List, [], ◌∷◌}
use Rattle.std.specs.Prelude.{fold, not}
use Rattle.std.specs.List.{AllByRecursion}
use Rattle.std.proofs.lemmas.Bool.{cond_both}
use Rattle.regs_service.specs.Served.{Step}
use Rattle.waits.specs.declared.job.Job.{Job}
use Rattle.waits.specs.Jobs.{Queue, is_of, is_ready, ready_job, without_session as without_jobs_of}
use Rattle.server_rules.specs.Server.{Name, Server, is_named, without_session}
use Rattle.server_rules.specs.Event.{Envelope, Setting, State, speaks}
use Rattle.server_rules.specs.Answer.{Answer, after_run, attaches, begun, ended, runs, takes, ticks}
use Rattle.server_rules.specs.Events.{Attach, Course, Event, Loss, Packet, Restart, Tick, Work, after_event, setting_at}
use Rattle.law_server_bounds.specs.Small.{AreSmall, DrawsWords, HasSmallEnvelope, IsSmallEnvelope, IsSmallJob, IsSmallSession, IsWholeSent, GivesReplies}
use Rattle.law_server_bounds.proofs.Judging.{AreLawful, AreRead}
use Rattle.law_server_bounds.proofs.SizeLists.{all-append, all-filter}
use Rattle.law_server_bounds.proofs.Packets.{ArePackets, AreSized, HaveAll}
use Rattle.law_server_bounds.proofs.SizeRows.{IsSmallCall}
use Rattle.law_server_bounds.proofs.States.{Good, attach-good, begun-good, end-good, packet-good, run-good, tick-good}

pub ready-small : (place : ℕ) (jobs : Queue) → AllByRecursion IsSmallJob jobs → IsSmallCall (ready_job place jobs)
ready-small place [] small = tt
ready-small zero (one ∷ others) small =
    cond_both (is_ready one) (Some one.job) (ready_job zero others) IsSmallCall (λ is. small.0) (λ is. ready-small zero others small.1)
ready-small (suc place) (one ∷ others) small = ready-small (cond (is_ready one) place (suc place)) others small.1

-- the laws of the crates below
pub record Laws : Type 0 where
  pub sized : AreSized
  pub have : HaveAll
  pub packets : ArePackets
  pub lawful : AreLawful
  pub read : AreRead

-- what an event gives
pub record Gives {S : Type 0} (answer : Answer S) : Type 0 where
  pub kept : AreSmall answer.server.sessions answer.server.jobs
  pub whole : AllByRecursion IsWholeSent answer.packets

module _ {S : Type 0} (laws : Laws) (setting : Setting S) (draws : DrawsWords setting) where
  gives : (state : State S) → Good state → Gives (ended setting state)
  gives state good =
      let done = end-good setting draws laws.sized laws.have laws.packets state good in
      record { kept = record { sessions = done.kept; jobs = done.jobs }; whole = done.sent }

  packet-gives : (envelope : Envelope) (server : Server) (draw : S) → IsSmallEnvelope envelope → AreSmall server.sessions server.jobs → Gives (ended setting (takes setting envelope (begun server draw)))
  packet-gives envelope server draw small kept = gives (takes setting envelope (begun server draw)) (packet-good setting draws laws.lawful laws.read envelope server draw small kept)

  tick-gives : (server : Server) (draw : S) → AreSmall server.sessions server.jobs → Gives (ended setting (ticks setting (begun server draw)))
  tick-gives server draw kept = gives (ticks setting (begun server draw)) (tick-good setting draws server draw kept)

  attach-gives : (name : Name) (server : Server) (draw : S) → AreSmall server.sessions server.jobs → Gives (ended setting (speaks name (attaches setting) (begun server draw)))
  attach-gives name server draw kept = gives (speaks name (attaches setting) (begun server draw)) (attach-good setting draws name server draw kept)

  run-gives : {V : Type 0} (place : ℕ) (job : Option Job) (serve : Step V) (service : V) (server : Server) (draw : S) → GivesReplies serve → IsSmallCall job → AreSmall server.sessions server.jobs
      → Gives (after_run setting place job serve service server draw).0
  run-gives place None serve service server draw words small kept = gives (begun server draw) (begun-good setting draws server draw kept)
  run-gives place (Some job) serve service server draw words small kept =
      let reply = (serve service job.request).0 in
      gives (runs setting place job reply (begun server draw)) (run-good setting draws place job reply server draw small (words service job.request) kept)

-- ---- courses

pub record Stands {S V : Type 0} (course : Course S V) : Type 0 where
  pub kept : AreSmall course.server.sessions course.server.jobs
  pub whole : AllByRecursion IsWholeSent course.packets

module _ {S V : Type 0} (laws : Laws) (setting : Setting S) (serve : Step V) (draws : DrawsWords setting) (words : GivesReplies serve) where
  loss-small : (name : Name) (server : Server) → AreSmall server.sessions server.jobs → AreSmall (without_session name server.sessions) (without_jobs_of name.key name.session server.jobs)
  loss-small name server kept =
      record {
        sessions = all-filter IsSmallSession (λ session. not (is_named name session)) server.sessions kept.sessions;
        jobs = all-filter IsSmallJob (λ one. not (is_of name.key name.session one)) server.jobs kept.jobs;
      }

  pub event-stands : (fresh : V) (course : Course S V) (event : Event) → HasSmallEnvelope event → Stands course → Stands (after_event setting serve fresh course event)
  event-stands fresh course (Packet moment None) small stands = record { kept = stands.kept; whole = stands.whole }
  event-stands fresh course (Packet moment (Some envelope)) small stands =
      let now = setting_at setting moment course.server in
      let done = packet-gives laws now draws envelope course.server course.draw small stands.kept in
      record { kept = done.kept; whole = all-append IsWholeSent course.packets _ stands.whole done.whole }
  event-stands fresh course (Work moment place) small stands =
      let now = setting_at setting moment course.server in
      let done = run-gives laws now draws place (ready_job place course.server.jobs) serve course.service course.server course.draw words (ready-small place course.server.jobs stands.kept.jobs) stands.kept in
      record { kept = done.kept; whole = all-append IsWholeSent course.packets _ stands.whole done.whole }
  event-stands fresh course (Tick moment) small stands =
      let now = setting_at setting moment course.server in
      let done = tick-gives laws now draws course.server course.draw stands.kept in
      record { kept = done.kept; whole = all-append IsWholeSent course.packets _ stands.whole done.whole }
  event-stands fresh course (Attach moment name) small stands =
      let now = setting_at setting moment course.server in
      let done = attach-gives laws now draws name course.server course.draw stands.kept in
      record { kept = done.kept; whole = all-append IsWholeSent course.packets _ stands.whole done.whole }
  event-stands fresh course (Loss name) small stands = record { kept = loss-small name course.server stands.kept; whole = stands.whole }
  event-stands fresh course Restart small stands = record { kept = record { sessions = tt; jobs = tt }; whole = stands.whole }

  pub events-stand : (fresh : V) (events : List Event) (course : Course S V) → AllByRecursion HasSmallEnvelope events → Stands course
      → Stands (fold (after_event setting serve fresh) course events)
  events-stand fresh [] course small stands = stands
  events-stand fresh (event ∷ events) course small stands =
      events-stand fresh events (after_event setting serve fresh course event) small.1 (event-stands fresh course event small.0 stands)

  -- whatever packets it had made before
  pub event-kept : (fresh : V) (course : Course S V) (event : Event) → HasSmallEnvelope event → AreSmall course.server.sessions course.server.jobs
      → AreSmall (after_event setting serve fresh course event).server.sessions (after_event setting serve fresh course event).server.jobs
  event-kept fresh course (Packet moment None) small kept = kept
  event-kept fresh course (Packet moment (Some envelope)) small kept =
      (packet-gives laws (setting_at setting moment course.server) draws envelope course.server course.draw small kept).kept
  event-kept fresh course (Work moment place) small kept =
      (run-gives laws (setting_at setting moment course.server) draws place (ready_job place course.server.jobs) serve course.service course.server course.draw words
      (ready-small place course.server.jobs kept.jobs) kept).kept
  event-kept fresh course (Tick moment) small kept = (tick-gives laws (setting_at setting moment course.server) draws course.server course.draw kept).kept
  event-kept fresh course (Attach moment name) small kept =
      (attach-gives laws (setting_at setting moment course.server) draws name course.server course.draw kept).kept
  event-kept fresh course (Loss name) small kept = loss-small name course.server kept
  event-kept fresh course Restart small kept = record { sessions = tt; jobs = tt }
