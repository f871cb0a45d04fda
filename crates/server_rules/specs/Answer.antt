-- The events of a server, and what each owes.
use Rattle.std.specs.Prelude.{ℕ, nat_lt, Bool, true, if◌then◌else◌, Option, Some, None, List, [], ◌∷◌, ◌++◌, fold, length, map}
use Rattle.std.specs.List.{filter, zip}
use Rattle.draws.specs.Draws.{draw_after, word_after}
use Rattle.msg_ids.specs.Counters.{none_given, room}
use Rattle.salt_line.specs.Line.{fresh_line}
use Rattle.service_tl.specs.declared.lists.Message.{Message}
use Rattle.id_window.specs.History.{History}
use Rattle.inbox.specs.Verdicts.{Judgement}
use Rattle.inbox.specs.Refusals.{Way, InEnvelope}
use Rattle.inbox.specs.Judging.{judge, judgements, session_after, unfolded}
use Rattle.waits.specs.declared.job.Job.{Job}
use Rattle.waits.specs.Jobs.{ready_job, without_ready, without_session as without_jobs_of}
use Rattle.regs_service.specs.Served.{Step}
use Rattle.server_rules.specs.Server.{Server, Session, Name, name_of, is_kept, has_accepted, remembered, session_named, without_session, sessions_max, fresh_server}
use Rattle.server_rules.specs.Event.{Setting, State, Speaker, Envelope, Entry, Sent, speaks, lost}
use Rattle.server_rules.specs.Speaking.{says_it_is_new, says_again, answers, records}
use Rattle.server_rules.specs.Waiting.{tells_of, after_failures, after_timeouts}
use Rattle.server_rules.specs.Rows.{acks_of, acknowledges, settles}
use Rattle.server_rules.specs.Sending.{all_sent}

-- ---- a packet comes

abbrev pub name_in : Envelope → Name
name_in envelope = record { key = envelope.key; session = envelope.session }

abbrev pub message_in : Envelope → Message
message_in envelope = record { number = envelope.number; seq = envelope.seq; body = envelope.body }

-- where all places are taken, the session that was heard least recently is lost
abbrev pub without_first : {S : Type 0} → List Session → State S → State S
without_first [] state = state
without_first (session ∷ sessions) state = lost (name_of session) state

abbrev pub with_place : {S : Type 0} → State S → State S
with_place state = if nat_lt (length state.sessions) sessions_max then state else without_first state.sessions state

-- a session is made, under a new unique number and with a first salt
abbrev pub session_for : {S : Type 0} → Setting S → Envelope → S → Session
session_for setting envelope draw =
    record {
      key = envelope.key;
      number = envelope.session;
      first = envelope.number;
      unique = word_after setting.step 0 draw;
      salts = fresh_line setting.now (word_after setting.step 1 draw);
      history = [];
      replies = [];
      counters = none_given;
    }

abbrev pub makes : {S : Type 0} → Setting S → Envelope → State S → State S
makes setting envelope state =
    record state {
      sessions = state.sessions ++ session_for setting envelope state.draw ∷ [];
      draw = draw_after setting.step 2 state.draw;
    }

-- the session of a packet is the one heard last; it is made where there is none of its name
abbrev pub hears_by : {S : Type 0} → Setting S → Envelope → Option Session → State S → State S
hears_by setting envelope (Some session) state =
    record state { sessions = without_session (name_of session) state.sessions ++ session ∷ [] }
hears_by setting envelope None state = makes setting envelope (with_place state)

abbrev pub hears : {S : Type 0} → Setting S → Envelope → State S → State S
hears setting envelope state = hears_by setting envelope (session_named (name_in envelope) state.sessions) state

-- all is judged before anything is owed: the session says that it is new as long as it has accepted nothing, and what it
-- received
abbrev pub opens : {S : Type 0} → Setting S → History → List Judgement → Speaker S → Speaker S
opens setting history judged speaker =
    let ready = record speaker { session = record speaker.session { history = history } } in
    acknowledges setting (acks_of judged) (if has_accepted ready.session then ready else says_it_is_new setting ready)

-- the messages that are judged, in order: the one in the envelope, and those inside it where it was accepted just now
abbrev pub messages_judged : Way → Session → Message → List Message
messages_judged way session message = message ∷ unfolded (judge way (remembered session) message) message

abbrev pub takes_by : {S : Type 0} → Setting S → Envelope → Option Session → State S → State S
takes_by setting envelope None state = state
takes_by setting envelope (Some session) state =
    let way = InEnvelope setting.now session.salts envelope.salt in
    let message = message_in envelope in
    let judged = judgements way (remembered session) message in
    let bodies = map (λ one. one.body) (messages_judged way session message) in
    let opened = speaks (name_of session) (opens setting (session_after way (remembered session) message).history judged) state in
    fold (settles setting (name_of session)) opened (zip judged bodies)

-- the session of a packet is heard, judges its messages, and owes what the table says of each judgement in order
abbrev pub takes : {S : Type 0} → Setting S → Envelope → State S → State S
takes setting envelope state =
    let heard = hears setting envelope state in
    takes_by setting envelope (session_named (name_in envelope) heard.sessions) heard

-- ---- other events

-- a ready job has run with this reply, which is kept and sent
abbrev pub finishes : {S : Type 0} → Setting S → Job → List ℕ → Speaker S → Speaker S
finishes setting job reply speaker =
    tells_of job.number (records true job.number job.request reply (answers setting job.number reply speaker))

abbrev pub runs : {S : Type 0} → Setting S → ℕ → Job → List ℕ → State S → State S
runs setting place job reply state =
    after_failures setting
    (speaks (record { key = job.key; session = job.session }) (finishes setting job reply)
    (record state { jobs = without_ready place state.jobs }))

-- a tick: the jobs that have waited too long are answered, then those that fail by that
abbrev pub ticks : {S : Type 0} → Setting S → State S → State S
ticks setting state = after_failures setting (after_timeouts setting state)

-- a connection was opened for the session: it says that it is new as long as it has accepted nothing, and then all kept
-- replies in order of making
abbrev pub attaches : {S : Type 0} → Setting S → Speaker S → Speaker S
attaches setting speaker =
    fold (λ speaker reply. says_again reply speaker)
    (if has_accepted speaker.session then speaker else says_it_is_new setting speaker)
    (filter is_kept speaker.session.replies)

-- ---- the end of an event

-- how many further numbers a session has to have room for
abbrev pub room_min : ℕ
room_min = 16384

abbrev pub is_spent : Session → Bool
is_spent session = nat_lt (room session.counters) room_min

-- a session without that room is lost
abbrev pub without_spent : {S : Type 0} → State S → State S
without_spent state = fold (λ so_far session. lost (name_of session) so_far) state (filter is_spent state.sessions)

-- what an event gives: the server and the draw afterwards, the packets in order, and the entries
pub record Answer (S : Type 0) : Type 0 where
  pub server : Server
  pub draw : S
  pub packets : List Sent
  pub entries : List Entry

-- the server before an event
abbrev pub begun : {S : Type 0} → Server → S → State S
begun server draw =
    record {
      sessions = server.sessions;
      jobs = server.jobs;
      bindings = server.bindings;
      draw = draw;
      owed = [];
      sent = [];
      entries = [];
    }

-- all that is owed is sent, and then sessions without room are lost
abbrev pub ended : {S : Type 0} → Setting S → State S → Answer S
ended setting state =
    let done = without_spent (all_sent setting state) in
    record {
      server = record { now = setting.now; sessions = done.sessions; jobs = done.jobs; bindings = done.bindings };
      draw = done.draw;
      packets = done.sent;
      entries = done.entries;
    }

-- ---- the events

abbrev pub after_packet : {S : Type 0} → Setting S → Envelope → Server → S → Answer S
after_packet setting envelope server draw = ended setting (takes setting envelope (begun server draw))

abbrev pub after_tick : {S : Type 0} → Setting S → Server → S → Answer S
after_tick setting server draw = ended setting (ticks setting (begun server draw))

abbrev pub after_attach : {S : Type 0} → Setting S → Name → Server → S → Answer S
after_attach setting name server draw = ended setting (speaks name (attaches setting) (begun server draw))

-- work on the ready job of this place, by a service in this state
abbrev pub after_run : {S V : Type 0} → Setting S → ℕ → Option Job → Step V → V → Server → S → Answer S × V
after_run setting place None serve service server draw = (ended setting (begun server draw), service)
after_run setting place (Some job) serve service server draw =
    let served = serve service job.request in
    (ended setting (runs setting place job served.0 (begun server draw)), served.1)

abbrev pub after_work : {S V : Type 0} → Setting S → ℕ → Step V → V → Server → S → Answer S × V
after_work setting place serve service server draw =
    after_run setting place (ready_job place server.jobs) serve service server draw

-- a session is lost, where there is one of this name
abbrev pub after_loss : Name → Server → Server
after_loss name server =
    record server { sessions = without_session name server.sessions; jobs = without_jobs_of name.key name.session server.jobs }

-- all sessions, jobs and bindings are gone
abbrev pub after_restart : Server → Server
after_restart server = record fresh_server { now = server.now }
