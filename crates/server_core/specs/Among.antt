-- The session of a packet, among the others of a server: an event of that session alone, but for the others that it destroys.
use Rattle.std.specs.Prelude.{◌≡◌, ◌≢◌, ℕ, is_some, Bool, false, if◌then◌else◌, Option, Some, None, List, [], ◌∷◌, ◌++◌, fold, length, map, All}
use Rattle.std.specs.List.{zip}
use Rattle.draws.specs.Draws.{draw_after}
use Rattle.service_tl.specs.declared.item.Item.TheVariants.{DestroySession, DestroySessionOk, DestroySessionNone}
use Rattle.inbox.specs.Verdicts.{Verdict, Accepted, Judgement}
use Rattle.inbox.specs.Judging.{judgements, session_after}
use Rattle.inbox.specs.Refusals.{InEnvelope}
use Rattle.waits.specs.Jobs.{without_session as without_jobs_of}
use Rattle.server_rules.specs.Server.{Name, Server, Session, name_of, remembered, session_named, without_session}
use Rattle.server_rules.specs.Event.{Envelope, Setting, Speaker, State, speaker_in}
use Rattle.server_rules.specs.Speaking.{says}
use Rattle.server_rules.specs.Waiting.{tells_of}
use Rattle.server_rules.specs.Rows.{owes}
use Rattle.server_rules.specs.Answer.{Answer, begun, is_spent, message_in, messages_judged, name_in, opens, session_for, with_place}
use Rattle.id_window.specs.History.{History}
use Rattle.law_server.specs.Order.{IsOrderly, IsSpeaking, jobs_of}
use Rattle.server_core.specs.One.{AreOwnFailures, answer_of, fails_all, says_its_own}

-- the other sessions, the one heard least recently first, and the session that speaks, which was heard last
pub record Among (S : Type 0) : Type 0 where
  pub others : List Session
  pub speaker : Speaker S

-- as it stands in an event
abbrev pub state_of : {S : Type 0} → Among S → State S
state_of among =
    record {
      sessions = among.others ++ among.speaker.session ∷ [];
      jobs = among.speaker.jobs;
      bindings = among.speaker.bindings;
      draw = among.speaker.draw;
      owed = among.speaker.owed;
      sent = among.speaker.sent;
      entries = among.speaker.entries;
    }

-- The session that speaks has this name, and none of the others has it. The others have room for an event. The jobs that have
-- failed are its own, and so is all that is owed.
pub record IsAlone {S : Type 0} (name : Name) (among : Among S) : Type 0 where
  pub named : name_of among.speaker.session ≡ name
  pub apart : All (λ other. name ≢ name_of other) among.others
  pub room : All (λ other. is_spent other ≡ false) among.others
  pub own : AreOwnFailures name among.speaker.jobs
  pub owed : All (λ one. one.name ≡ name) among.speaker.owed

-- it is in order, with these numbers open
abbrev pub IsInOrder : {S : Type 0} → Name → History → List ℕ → Speaker S → Type 0
IsInOrder name past opened speaker = IsSpeaking name (λ other. jobs_of other speaker.jobs) past opened speaker

-- it is in order, with no number open
abbrev pub IsOrderlySpeaker : {S : Type 0} → Name → Speaker S → Type 0
IsOrderlySpeaker name speaker = IsOrderly speaker.session.history speaker.session.replies speaker.session.counters.last (jobs_of name speaker.jobs)

-- it speaks
abbrev pub speaks_among : {S : Type 0} → (Speaker S → Speaker S) → Among S → Among S
speaks_among speak among = record among { speaker = speak among.speaker }

-- ---- it is heard

-- it stands already, or is made, after the one heard least recently was lost where all places are taken
abbrev pub heard_by : {S : Type 0} → Setting S → Envelope → Option Session → State S → Among S
heard_by setting envelope (Some session) state =
    record { others = without_session (name_of session) state.sessions; speaker = speaker_in state session }
heard_by setting envelope None state =
    let placed = with_place state in
    record {
      others = placed.sessions;
      speaker = speaker_in (record placed { draw = draw_after setting.step 2 placed.draw }) (session_for setting envelope placed.draw);
    }

abbrev pub heard_among : {S : Type 0} → Setting S → Envelope → State S → Among S
heard_among setting envelope state = heard_by setting envelope (session_named (name_in envelope) state.sessions) state

-- it has this history
abbrev pub remembers_among : {S : Type 0} → History → Among S → Among S
remembers_among history among = record among { speaker = record among.speaker { session = record among.speaker.session { history = history } } }

-- ---- its judgements are settled

-- another session is lost with its jobs
abbrev pub loses_another : {S : Type 0} → Name → Among S → Among S
loses_another name among =
    record {
      others = without_session name among.others;
      speaker = record among.speaker { jobs = without_jobs_of name.key name.session among.speaker.jobs };
    }

-- the other session of its key with this number is lost, where there is one
abbrev pub destroys_another : {S : Type 0} → Setting S → ℕ → Among S → Among S
destroys_another setting destroyed among =
    let other = record (name_of among.speaker.session) { session = destroyed } in
    if is_some (session_named other among.others)
    then speaks_among (says setting (DestroySessionOk destroyed)) (loses_another other among)
    else speaks_among (says setting (DestroySessionNone destroyed)) among

abbrev pub row_among : {S : Type 0} → Setting S → ℕ → ℕ → Verdict → List ℕ → Among S → Among S
row_among setting number seq (Accepted (DestroySession destroyed)) body among = destroys_another setting destroyed among
row_among setting number seq verdict body among = speaks_among (owes setting number seq verdict body) among

-- its jobs that wait for a number are told, and each of them that has failed is answered
abbrev pub tells_all : {S : Type 0} → Setting S → ℕ → Speaker S → Speaker S
tells_all setting number speaker =
    let told = tells_of number speaker in
    fails_all setting (length told.jobs) told

abbrev pub settles_among : {S : Type 0} → Setting S → Among S → Judgement × List ℕ → Among S
settles_among setting among (judgement, body) =
    speaks_among (tells_all setting judgement.number)
    (row_among setting judgement.number judgement.seq judgement.verdict body among)

-- it judges the messages of the packet, and owes what the table says of each judgement in order
abbrev pub takes_among : {S : Type 0} → Setting S → Envelope → Among S → Among S
takes_among setting envelope among =
    let session = among.speaker.session in
    let way = InEnvelope setting.now session.salts envelope.salt in
    let message = message_in envelope in
    let judged = judgements way (remembered session) message in
    let bodies = map (λ one. one.body) (messages_judged way session message) in
    fold (settles_among setting)
    (speaks_among (opens setting (session_after way (remembered session) message).history judged) among)
    (zip judged bodies)

-- ---- the end of the event

-- it stays, or is lost with its jobs
abbrev pub left_where : {S : Type 0} → Bool → Among S → State S
left_where lost among =
    if lost
    then record (state_of among) {
      sessions = among.others;
      jobs = without_jobs_of among.speaker.session.key among.speaker.session.number among.speaker.jobs;
    }
    else state_of among

-- all that it owes is sent, and then it is lost where it has no room for a further event
abbrev pub ended_among : {S : Type 0} → Setting S → Among S → Answer S
ended_among setting among =
    let done = speaks_among (says_its_own setting) among in
    answer_of setting (left_where (is_spent done.speaker.session) done)

abbrev pub packet_among : {S : Type 0} → Setting S → Envelope → Server → S → Answer S
packet_among setting envelope server draw =
    ended_among setting (takes_among setting envelope (heard_among setting envelope (begun server draw)))
