-- The lives of a server's sessions over a list of events. A session that is lost and then made again under its name lives
-- twice: each making is a life of its own.
use Rattle.std.specs.Prelude.{ℕ, ◌==◌, ◌&&◌, Bool, true, if◌then◌else◌, is_some, Option, Some, None, List, [], ◌∷◌, ◌++◌, fold, map, drop, length, filter_map}
use Rattle.std.specs.List.{filter, zip}
use Rattle.service_tl.specs.declared.item.Item.{Item}
use Rattle.service_tl.specs.declared.item.Item.TheVariants.{InvokeAfterMsg, InvokeAfterMsgs, Packed, Call, Broken}
use Rattle.service_tl.specs.Schema.{rpc_drop_answer}
use Rattle.id_window.specs.History.{History}
use Rattle.inbox.specs.Verdicts.{Verdict, Accepted, Judgement}
use Rattle.inbox.specs.Refusals.{Way, InEnvelope}
use Rattle.inbox.specs.Judging.{judgements, session_after}
use Rattle.regs_service.specs.Served.{Step}
use Rattle.server_rules.specs.Server.{Session, Name, is_same, name_of, session_named, remembered}
use Rattle.server_rules.specs.Event.{Setting, Envelope, Entry, Sent}
use Rattle.server_rules.specs.Events.{Event, Packet, Course, setting_at, after_event, begun_course}
use Rattle.server_rules.specs.Answer.{name_in, message_in, messages_judged, hears, begun}

-- ---- what a session accepted

-- an accepted message: its number, the item that it is, and its body
pub record Acceptance : Type 0 where
  pub number : ℕ
  pub item : Item
  pub body : List ℕ

-- What an item asks of the service, in a message with this body: a call that waits for others its query, any other call
-- its body, and so what is answered in place of one. A service message asks nothing, nor does a binding call that is
-- spelt right.
abbrev pub request_of : Item → List ℕ → Option (List ℕ)
request_of Call body = Some body
request_of (InvokeAfterMsg other query) body = Some query
request_of (InvokeAfterMsgs others query) body = Some query
request_of Packed body = Some body
request_of (Broken constructor) body = if constructor == rpc_drop_answer.number then None else Some body
request_of _ body = None

abbrev pub acceptance_by : ℕ → Verdict → List ℕ → Option Acceptance
acceptance_by number (Accepted item) body = Some (record { number = number; item = item; body = body })
acceptance_by number _ body = None

-- a judgement with the body of its message, where it accepts that
abbrev pub acceptance_of : Judgement × List ℕ → Option Acceptance
acceptance_of (judgement, body) = acceptance_by judgement.number judgement.verdict body

-- ---- a life

-- A session from its making until it is lost: its name, the number of the message that made it, its unique number, what
-- it judged, the messages that it accepted, the entries and the packets that it made, each in order, and whether it
-- stands.
pub record Life : Type 0 where
  pub name : Name
  pub first : ℕ
  pub unique : ℕ
  pub history : History
  pub accepted : List Acceptance
  pub entries : List Entry
  pub packets : List Sent
  pub stands : Bool

-- it begins
abbrev pub life_of : Session → Life
life_of session =
    record {
      name = name_of session;
      first = session.first;
      unique = session.unique;
      history = [];
      accepted = [];
      entries = [];
      packets = [];
      stands = true;
    }

-- ---- a packet comes to it

-- the session that hears the packet
abbrev pub heard_by : {S V : Type 0} → Setting S → Envelope → Course S V → Option Session
heard_by setting envelope course = session_named (name_in envelope) (hears setting envelope (begun course.server course.draw)).sessions

abbrev pub way_of : {S : Type 0} → Setting S → Envelope → Session → Way
way_of setting envelope session = InEnvelope setting.now session.salts envelope.salt

-- the judgements of its messages, each with the body
abbrev pub judged_by : {S : Type 0} → Setting S → Envelope → Session → List (Judgement × List ℕ)
judged_by setting envelope session =
    let way = way_of setting envelope session in
    let message = message_in envelope in
    zip (judgements way (remembered session) message) (map (λ one. one.body) (messages_judged way session message))

-- what the session has judged then
abbrev pub history_by : {S : Type 0} → Setting S → Envelope → Session → History
history_by setting envelope session = (session_after (way_of setting envelope session) (remembered session) (message_in envelope)).history

abbrev pub with_packet : {S : Type 0} → Setting S → Envelope → Option Session → Life → Life
with_packet setting envelope None life = life
with_packet setting envelope (Some session) life =
    record life {
      history = history_by setting envelope session;
      accepted = life.accepted ++ filter_map acceptance_of (judged_by setting envelope session);
    }

abbrev pub hearing : {S V : Type 0} → Setting S → Course S V → Event → Life → Life
hearing setting course (Packet moment (Some envelope)) life =
    let at = setting_at setting moment course.server in
    if is_same life.name (name_in envelope) then with_packet at envelope (heard_by at envelope course) life else life
hearing setting course _ life = life

-- ---- an event

abbrev pub is_entry_of : Name → Entry → Bool
is_entry_of name entry = (entry.key == name.key) && (entry.session == name.session)

abbrev pub is_packet_of : Name → Sent → Bool
is_packet_of name packet = (packet.envelope.key == name.key) && (packet.envelope.session == name.session)

-- it has what the event made in its name, and ends where no session has this name any more
abbrev pub with_event : {S V : Type 0} → Course S V → Course S V → Life → Life
with_event before after life =
    record life {
      entries = life.entries ++ filter (is_entry_of life.name) (drop (length before.entries) after.entries);
      packets = life.packets ++ filter (is_packet_of life.name) (drop (length before.packets) after.packets);
      stands = is_some (session_named life.name after.server.sessions);
    }

-- a life that has ended stays as it was
abbrev pub gone_on : {S V : Type 0} → Setting S → Course S V → Course S V → Event → Life → Life
gone_on setting before after event life = if life.stands then with_event before after (hearing setting before event life) else life

abbrev pub newborn : Option Session → Option Session → List Life
newborn None (Some session) = life_of session ∷ []
newborn _ _ = []

-- a packet begins a life where no session of its name stands
abbrev pub made_by : {S V : Type 0} → Setting S → Course S V → Event → List Life
made_by setting course (Packet moment (Some envelope)) =
    newborn (session_named (name_in envelope) course.server.sessions) (heard_by (setting_at setting moment course.server) envelope course)
made_by setting course _ = []

abbrev pub lives_after : {S V : Type 0} → Setting S → Course S V → Course S V → Event → List Life → List Life
lives_after setting before after event lives = map (gone_on setting before after event) (lives ++ made_by setting before event)

-- ---- all events

-- a course with the lives in it, in the order in which they began
pub record Told (S V : Type 0) : Type 0 where
  pub course : Course S V
  pub lives : List Life

abbrev pub told_after : {S V : Type 0} → Setting S → Step V → V → Told S V → Event → Told S V
told_after setting serve fresh told event =
    let after = after_event setting serve fresh told.course event in
    record { course = after; lives = lives_after setting told.course after event told.lives }

abbrev pub told_from : {S V : Type 0} → Setting S → Step V → V → Told S V → List Event → Told S V
told_from setting serve fresh told events = fold (told_after setting serve fresh) told events

-- from a fresh server on
abbrev pub told_of : {S V : Type 0} → Setting S → Step V → V → S → List Event → Told S V
told_of setting serve fresh draw events = told_from setting serve fresh (record { course = begun_course fresh draw; lives = [] }) events
