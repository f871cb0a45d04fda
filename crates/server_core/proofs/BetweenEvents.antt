-- A server stays in order from event to event, and each event gives few packets and entries.
use Rattle.std.proofs.Common.{◌≡◌, ℕ, ◌≤◌, ◌+◌, Option, None, Some, List, [], refl, subst, arith}
use Rattle.std.specs.Prelude.{All, max, min}
use Rattle.msg_ids.specs.Moments.{latest_moment}
use Rattle.outbox.specs.Replies.{IsWithin}
use Rattle.waits.specs.declared.job.Job.{Job}
use Rattle.waits.specs.Jobs.{AreWithinLimits, ready_job}
use Rattle.regs_service.specs.Served.{Step}
use Rattle.server_rules.specs.Server.{Name, Server, Session, kept_replies}
use Rattle.server_rules.specs.Event.{Envelope, Setting}
use Rattle.server_rules.specs.Events.{Course, Event, Attach, Loss, Packet, Restart, Tick, Work, after_event, worked}
use Rattle.server_rules.specs.Answer.{Answer, after_attach, after_loss, after_packet, after_restart, after_run, after_tick, after_work}
use Rattle.law_server_bounds.specs.Giving as bounds
use Rattle.law_server_bounds.specs.Runs.{IsShortRun}
use Rattle.law_server.specs.Order.{AreOrdered}
use Rattle.server_core.specs.Desks.{GivesFew, IsShortRunAt}
use Rattle.server_core.specs.Server.{IsBetweenEvents}

abbrev pub IsOrdered : Server → Type 0
IsOrdered server = AreOrdered server.sessions server.jobs

abbrev pub KeepsFew : List Session → Type 0
KeepsFew sessions = All (λ session. IsWithin (kept_replies session.replies)) sessions

-- each event leaves what fits so, few replies and few jobs, and gives few packets and entries
pub record Keeps (S V : Type 0) : Type 0 where
  pub order : (setting : Setting S) (serve : Step V) (service : V) (course : Course S V) (event : Event)
      → IsOrdered course.server → IsOrdered (after_event setting serve service course event).server
  pub replies : (setting : Setting S) (serve : Step V) (service : V) (course : Course S V) (event : Event)
      → IsShortRun serve course event → KeepsFew course.server.sessions → KeepsFew (after_event setting serve service course event).server.sessions
  pub jobs : (setting : Setting S) (serve : Step V) (service : V) (course : Course S V) (event : Event)
      → AreWithinLimits course.server.jobs → AreWithinLimits (after_event setting serve service course event).server.jobs
  pub gives : (setting : Setting S) (serve : Step V) (service : V) (course : Course S V) (event : Event)
      → KeepsFew course.server.sessions → bounds.GivesFew S V course (after_event setting serve service course event)

-- the server, given no moment so far
abbrev pub begun_so : {S V : Type 0} → Server → V → S → Course S V
begun_so server service draw = record { server = record server { now = 0 }; service = service; draw = draw; packets = []; entries = [] }

abbrev pub at_moment : {S : Type 0} → Setting S → ℕ → Setting S
at_moment setting moment = record setting { now = moment }

-- a service that does nothing
abbrev pub idle : {V : Type 0} → Step V
idle service request = ([], service)

moment-same : (moment : ℕ) → moment ≤ latest_moment → max 0 (min moment latest_moment) ≡ moment
moment-same moment early = omega (arith, early)

behind-none : (count most : ℕ) → count ≤ 0 + most → count ≤ most
behind-none count most le = omega (arith, le)

-- what holds of the server after each event, and of what that gives, by what holds of a course
record Ends {S V : Type 0} (before : Course S V) (after : Course S V) : Type 0 where
  order : IsOrdered after.server
  replies : KeepsFew after.server.sessions
  jobs : AreWithinLimits after.server.jobs
  few : bounds.GivesFew S V before after

ends : {S V : Type 0} (keeps : Keeps S V) (setting : Setting S) (serve : Step V) (service : V) (server : Server) (draw : S) (event : Event)
    → IsBetweenEvents server → IsShortRun serve (begun_so server service draw) event
    → Ends (begun_so server service draw) (after_event setting serve service (begun_so server service draw) event)
ends keeps setting serve service server draw event is short =
    let course = begun_so server service draw in
    record {
      order = keeps.order setting serve service course event is.order;
      replies = keeps.replies setting serve service course event short is.replies;
      jobs = keeps.jobs setting serve service course event is.jobs;
      few = keeps.gives setting serve service course event is.replies;
    }

-- what holds of an answer
record Holds {S : Type 0} (server : Server) (answer : Answer S) : Type 0 where
  order : IsOrdered answer.server
  replies : KeepsFew answer.server.sessions
  jobs : AreWithinLimits answer.server.jobs
  few : GivesFew server answer

between : {S : Type 0} (server : Server) (answer : Answer S) → answer.server.now ≤ latest_moment → Holds server answer → IsBetweenEvents answer.server
between server answer early holds = record { at = early; order = holds.order; replies = holds.replies; jobs = holds.jobs }

packet-holds : {S : Type 0} (keeps : Keeps S S) (setting : Setting S) (envelope : Envelope) (server : Server) (draw : S) → setting.now ≤ latest_moment
    → IsBetweenEvents server → Holds server (after_packet setting envelope server draw)
packet-holds keeps setting envelope server draw early is =
    let done = ends keeps setting idle draw server draw (Packet setting.now (Some envelope)) is tt in
    subst (λ (now : ℕ). Holds server (after_packet (at_moment setting now) envelope server draw)) (moment-same setting.now early)
    (record { order = done.order; replies = done.replies; jobs = done.jobs; few = record { packets = behind-none _ _ done.few.packets; entries = behind-none _ _ done.few.entries } })

tick-holds : {S : Type 0} (keeps : Keeps S S) (setting : Setting S) (server : Server) (draw : S) → setting.now ≤ latest_moment
    → IsBetweenEvents server → Holds server (after_tick setting server draw)
tick-holds keeps setting server draw early is =
    let done = ends keeps setting idle draw server draw (Tick setting.now) is tt in
    subst (λ (now : ℕ). Holds server (after_tick (at_moment setting now) server draw)) (moment-same setting.now early)
    (record { order = done.order; replies = done.replies; jobs = done.jobs; few = record { packets = behind-none _ _ done.few.packets; entries = behind-none _ _ done.few.entries } })

attach-holds : {S : Type 0} (keeps : Keeps S S) (setting : Setting S) (name : Name) (server : Server) (draw : S) → setting.now ≤ latest_moment
    → IsBetweenEvents server → Holds server (after_attach setting name server draw)
attach-holds keeps setting name server draw early is =
    let done = ends keeps setting idle draw server draw (Attach setting.now name) is tt in
    subst (λ (now : ℕ). Holds server (after_attach (at_moment setting now) name server draw)) (moment-same setting.now early)
    (record { order = done.order; replies = done.replies; jobs = done.jobs; few = record { packets = behind-none _ _ done.few.packets; entries = behind-none _ _ done.few.entries } })

run-holds-so : {S V : Type 0} (setting : Setting S) (place : ℕ) (found : Option Job) (serve : Step V) (service : V) (server : Server) (draw : S)
    → Ends (begun_so server service draw) (worked (begun_so server service draw) (after_run setting place found serve service (record server { now = 0 }) draw))
    → Holds server (after_run setting place found serve service server draw).0
run-holds-so setting place None serve service server draw done =
    record { order = done.order; replies = done.replies; jobs = done.jobs; few = record { packets = behind-none _ _ done.few.packets; entries = behind-none _ _ done.few.entries } }
run-holds-so setting place (Some job) serve service server draw done =
    record { order = done.order; replies = done.replies; jobs = done.jobs; few = record { packets = behind-none _ _ done.few.packets; entries = behind-none _ _ done.few.entries } }

run-holds : {S V : Type 0} (keeps : Keeps S V) (setting : Setting S) (place : ℕ) (serve : Step V) (service : V) (server : Server) (draw : S)
    → setting.now ≤ latest_moment → IsShortRunAt place serve service server → IsBetweenEvents server
    → Holds server (after_work setting place serve service server draw).0
run-holds keeps setting place serve service server draw early short is =
    subst (λ (now : ℕ). Holds server (after_work (at_moment setting now) place serve service server draw).0) (moment-same setting.now early)
    (run-holds-so (at_moment setting (max 0 (min setting.now latest_moment))) place (ready_job place server.jobs) serve service server draw
    (ends keeps setting serve service server draw (Work setting.now place) is short))

-- ---- the server stays so

pub packet-keeps : {S : Type 0} (keeps : Keeps S S) (setting : Setting S) (envelope : Envelope) (server : Server) (draw : S) → setting.now ≤ latest_moment
    → IsBetweenEvents server → IsBetweenEvents (after_packet setting envelope server draw).server
packet-keeps keeps setting envelope server draw early is =
    between server (after_packet setting envelope server draw) early (packet-holds keeps setting envelope server draw early is)

pub tick-keeps : {S : Type 0} (keeps : Keeps S S) (setting : Setting S) (server : Server) (draw : S) → setting.now ≤ latest_moment
    → IsBetweenEvents server → IsBetweenEvents (after_tick setting server draw).server
tick-keeps keeps setting server draw early is =
    between server (after_tick setting server draw) early (tick-holds keeps setting server draw early is)

pub attach-keeps : {S : Type 0} (keeps : Keeps S S) (setting : Setting S) (name : Name) (server : Server) (draw : S) → setting.now ≤ latest_moment
    → IsBetweenEvents server → IsBetweenEvents (after_attach setting name server draw).server
attach-keeps keeps setting name server draw early is =
    between server (after_attach setting name server draw) early (attach-holds keeps setting name server draw early is)

run-moment : {S V : Type 0} (setting : Setting S) (place : ℕ) (found : Option Job) (serve : Step V) (service : V) (server : Server) (draw : S)
    → (after_run setting place found serve service server draw).0.server.now ≡ setting.now
run-moment setting place None serve service server draw = refl
run-moment setting place (Some job) serve service server draw = refl

pub run-keeps : {S V : Type 0} (keeps : Keeps S V) (setting : Setting S) (place : ℕ) (serve : Step V) (service : V) (server : Server) (draw : S)
    → setting.now ≤ latest_moment → IsShortRunAt place serve service server → IsBetweenEvents server
    → IsBetweenEvents (after_work setting place serve service server draw).0.server
run-keeps keeps setting place serve service server draw early short is =
    between server (after_work setting place serve service server draw).0
    (rw (run-moment setting place (ready_job place server.jobs) serve service server draw) early)
    (run-holds keeps setting place serve service server draw early short is)

pub loss-keeps : {S V : Type 0} (keeps : Keeps S V) (setting : Setting S) (service : V) (draw : S) (name : Name) (server : Server)
    → IsBetweenEvents server → IsBetweenEvents (after_loss name server)
loss-keeps keeps setting service draw name server is =
    let done = ends keeps setting idle service server draw (Loss name) is tt in
    record { at = is.at; order = done.order; replies = done.replies; jobs = done.jobs }

pub restart-keeps : {S V : Type 0} (keeps : Keeps S V) (setting : Setting S) (service : V) (draw : S) (server : Server)
    → IsBetweenEvents server → IsBetweenEvents (after_restart server)
restart-keeps keeps setting service draw server is =
    let done = ends keeps setting idle service server draw Restart is tt in
    record { at = is.at; order = done.order; replies = done.replies; jobs = done.jobs }

-- ---- and gives few

pub packet-few : {S : Type 0} (keeps : Keeps S S) (setting : Setting S) (envelope : Envelope) (server : Server) (draw : S) → setting.now ≤ latest_moment
    → IsBetweenEvents server → GivesFew server (after_packet setting envelope server draw)
packet-few keeps setting envelope server draw early is = (packet-holds keeps setting envelope server draw early is).few

pub tick-few : {S : Type 0} (keeps : Keeps S S) (setting : Setting S) (server : Server) (draw : S) → setting.now ≤ latest_moment
    → IsBetweenEvents server → GivesFew server (after_tick setting server draw)
tick-few keeps setting server draw early is = (tick-holds keeps setting server draw early is).few

pub attach-few : {S : Type 0} (keeps : Keeps S S) (setting : Setting S) (name : Name) (server : Server) (draw : S) → setting.now ≤ latest_moment
    → IsBetweenEvents server → GivesFew server (after_attach setting name server draw)
attach-few keeps setting name server draw early is = (attach-holds keeps setting name server draw early is).few

pub run-few : {S V : Type 0} (keeps : Keeps S V) (setting : Setting S) (place : ℕ) (serve : Step V) (service : V) (server : Server) (draw : S)
    → setting.now ≤ latest_moment → IsShortRunAt place serve service server → IsBetweenEvents server
    → GivesFew server (after_work setting place serve service server draw).0
run-few keeps setting place serve service server draw early short is = (run-holds keeps setting place serve service server draw early short is).few
