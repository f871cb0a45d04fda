-- All that a server does: events one after the other.
use Rattle.std.specs.Prelude.{ℕ, max, Option, Some, None, List, [], ◌++◌, fold}
use Rattle.regs_service.specs.Served.{Step}
use Rattle.msg_ids.specs.Moments.{moment_of}
use Rattle.server_rules.specs.Server.{Server, Name, fresh_server}
use Rattle.server_rules.specs.Event.{Setting, Envelope, Sent, Entry}
use Rattle.server_rules.specs.Answer.{Answer, after_packet, after_work, after_tick, after_attach, after_loss, after_restart}

-- an event: a packet comes at a moment, with what it opens to, where it opens; work on the ready job of a place, a tick, a
-- connection for a session, each at a moment; a session is lost; the server starts again
pub data Event : Type 0 where
  Packet : (moment : ℕ) (envelope : Option Envelope) → Event
  Work : (moment place : ℕ) → Event
  Tick : (moment : ℕ) → Event
  Attach : (moment : ℕ) (name : Name) → Event
  Loss : (name : Name) → Event
  Restart : Event

-- a server with its service and the draw, and all packets and entries that it made
pub record Course (S V : Type 0) : Type 0 where
  pub server : Server
  pub service : V
  pub draw : S
  pub packets : List Sent
  pub entries : List Entry

-- a core uses the greatest moment that it was given, where a later one than the latest counts as that
abbrev pub setting_at : {S : Type 0} → Setting S → ℕ → Server → Setting S
setting_at setting moment server = record setting { now = max server.now (moment_of moment) }

abbrev pub gone_on : {S V : Type 0} → Course S V → V → Answer S → Course S V
gone_on course service answer =
    record {
      server = answer.server;
      service = service;
      draw = answer.draw;
      packets = course.packets ++ answer.packets;
      entries = course.entries ++ answer.entries;
    }

abbrev pub worked : {S V : Type 0} → Course S V → Answer S × V → Course S V
worked course (answer, service) = gone_on course service answer

-- a packet that doesn't open changes nothing but the moment
abbrev pub heard : {S V : Type 0} → Setting S → Option Envelope → Course S V → Course S V
heard setting None course = record course { server = record course.server { now = setting.now } }
heard setting (Some envelope) course = gone_on course course.service (after_packet setting envelope course.server course.draw)

-- one event; a restart makes the service fresh
abbrev pub after_event : {S V : Type 0} → Setting S → Step V → V → Course S V → Event → Course S V
after_event setting serve fresh course (Packet moment envelope) = heard (setting_at setting moment course.server) envelope course
after_event setting serve fresh course (Work moment place) =
    worked course (after_work (setting_at setting moment course.server) place serve course.service course.server course.draw)
after_event setting serve fresh course (Tick moment) =
    gone_on course course.service (after_tick (setting_at setting moment course.server) course.server course.draw)
after_event setting serve fresh course (Attach moment name) =
    gone_on course course.service (after_attach (setting_at setting moment course.server) name course.server course.draw)
after_event setting serve fresh course (Loss name) = record course { server = after_loss name course.server }
after_event setting serve fresh course Restart = record course { server = after_restart course.server; service = fresh }

-- all events, from a fresh server on
abbrev pub begun_course : {S V : Type 0} → V → S → Course S V
begun_course fresh draw = record { server = fresh_server; service = fresh; draw = draw; packets = []; entries = [] }

abbrev pub course_of : {S V : Type 0} → Setting S → Step V → V → S → List Event → Course S V
course_of setting serve fresh draw events = fold (after_event setting serve fresh) (begun_course fresh draw) events
