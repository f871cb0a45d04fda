-- There are 256 sessions at most.
use Rattle.std.proofs.Common.{◌≡◌, ◌∙◌, ℕ, zero, suc, ◌+◌, ◌≤◌, ltb, Bool, Option, Some, None, List, [], ◌∷◌, length, ap, sym, subst, refl, arith, inl, inr}
use Rattle.std.specs.Prelude.{map, fold, not}
use Rattle.std.specs.List.{filter, zip}
use Rattle.std.proofs.lemmas.Bool.{cases_Bool, cond_both, ltb-true}
use Rattle.std.proofs.lemmas.List.{length-append, length-map}
use Rattle.service_tl.specs.declared.item.Item.TheVariants.{DestroySession, DestroySessionOk, DestroySessionNone}
use Rattle.inbox.specs.Verdicts.{Judgement, Verdict, Accepted, Again, Noticed}
use Rattle.inbox.specs.Refusals.{InEnvelope}
use Rattle.inbox.specs.Judging.{judgements, session_after}
use Rattle.waits.specs.declared.job.Job.{Job}
use Rattle.waits.specs.Jobs.{Queue, ready_job, without_ready}
use Rattle.regs_service.specs.Served.{Step}
use Rattle.server_rules.specs.Server.{Name, Session, Server, name_of, is_named, session_named, without_session, remembered, sessions_max}
use Rattle.server_rules.specs.Event.{Setting, State, Speaker, Envelope, Owed, spoken_by, speaks, lost}
use Rattle.server_rules.specs.Speaking.{says, msg_wait_failed, msg_wait_timeout}
use Rattle.server_rules.specs.Waiting.{gives_up, given_up, first_given_up, all_given_up, first_failed, first_overdue, after_failures, after_timeouts, tells_of}
use Rattle.server_rules.specs.Rows.{settles, row, owes, destroys}
use Rattle.server_rules.specs.Sending.{names_in, messages_by, sends, all_sent}
use Rattle.server_rules.specs.Answer.{name_in, message_in, messages_judged, finishes, hears, hears_by, makes, session_for, without_first as without_first_session, opens, takes, takes_by, attaches, runs, ticks, is_spent, begun, ended, after_run}
use Rattle.server_rules.specs.Events.{Event, Packet, Work, Tick, Attach, Loss, Restart, Course, setting_at, after_event, begun_course, course_of}
use Rattle.law_server.proofs.Names.{names-same}
use Rattle.law_server.proofs.Own.{none-some}
use Rattle.law_server.proofs.Sessions.{find-first, find-other, found-named}

abbrev pub Few : List Session → Type 0
Few sessions = length sessions ≤ 256

fewer : (test : Session → Bool) (sessions : List Session) → length (filter test sessions) ≤ length sessions
fewer test [] = omega arith
fewer test (session ∷ sessions) =
    let rest = fewer test sessions in
    cond_both (test session) (session ∷ filter test sessions) (filter test sessions) (λ (kept : List Session). length kept ≤ length (session ∷ sessions)) (λ is. omega arith) (λ is. omega arith)

one-fewer : (name : Name) (sessions : List Session) (session : Session) → session_named name sessions ≡ Some session → length (without_session name sessions) + 1 ≤ length sessions
one-fewer name [] session is = absurd (none-some session is)
one-fewer name (first ∷ sessions) session is =
    elim (cases_Bool (is_named name first)) [
      | inl holds ↦ let rest = fewer (λ session. not (is_named name session)) sessions in rw holds (omega arith)
      | inr fails ↦
          let found : session_named name sessions ≡ Some session = sym (find-other (is_named name) first sessions fails) ∙ is in
          let rest = one-fewer name sessions session found in
          rw fails (omega arith)
    ]

few-lost : (name : Name) (sessions : List Session) → Few sessions → Few (without_session name sessions)
few-lost name sessions few = let rest = fewer (λ session. not (is_named name session)) sessions in omega arith

few-by : {S : Type 0} (found : Option Session) (speak : Speaker S → Speaker S) (state : State S) → Few state.sessions → Few (spoken_by found speak state).sessions
few-by None speak state few = few
few-by (Some session) speak state few = rw length-map few

few-speaks : {S : Type 0} (name : Name) (speak : Speaker S → Speaker S) (state : State S) → Few state.sessions → Few (speaks name speak state).sessions
few-speaks name speak state few = few-by (session_named name state.sessions) speak state few

few-given : {S : Type 0} (setting : Setting S) (content : List ℕ) (job : Option Job) (state : State S) → Few state.sessions → Few (given_up setting content job state).sessions
few-given setting content None state few = few
few-given setting content (Some job) state few = few-speaks (record { key = job.key; session = job.session }) (gives_up setting content job) state few

few-all : {S : Type 0} (setting : Setting S) (content : List ℕ) (first : Queue → Option Job × Queue) (n : ℕ) (state : State S) → Few state.sessions
    → Few (all_given_up setting content first n state).sessions
few-all setting content first zero state few = few
few-all {S} setting content first (suc n) state few =
    let rest : State S = record state { jobs = (first state.jobs).1 } in
    few-all setting content first n (first_given_up setting content first state) (few-given setting content (first state.jobs).0 rest few)

few-failures : {S : Type 0} (setting : Setting S) (state : State S) → Few state.sessions → Few (after_failures setting state).sessions
few-failures setting state few = few-all setting msg_wait_failed first_failed (length state.jobs) state few

few-destroys : {S : Type 0} (setting : Setting S) (number destroyed : ℕ) (name : Name) (state : State S) → Few state.sessions → Few (destroys setting number destroyed name state).sessions
few-destroys {S} setting number destroyed name state few =
    let other : Name = record name { session = destroyed } in
    cond_both _ _ _ (λ (state : State S). Few state.sessions)
    (λ is. few-speaks name (says setting (DestroySessionOk destroyed)) (lost other state) (few-lost other state.sessions few))
    (λ is. few-speaks name (says setting (DestroySessionNone destroyed)) state few)

few-row : {S : Type 0} (setting : Setting S) (name : Name) (number seq : ℕ) (verdict : Verdict) (body : List ℕ) (state : State S) → Few state.sessions
    → Few (row setting name number seq verdict body state).sessions
few-row setting name number seq (Accepted (DestroySession destroyed)) body state few = few-destroys setting number destroyed name state few
few-row setting name number seq (Accepted item) body state few = few-speaks name (owes setting number seq (Accepted item) body) state few
few-row setting name number seq (Again mark) body state few = few-speaks name (owes setting number seq (Again mark) body) state few
few-row setting name number seq (Noticed code) body state few = few-speaks name (owes setting number seq (Noticed code) body) state few

few-settle : {S : Type 0} (setting : Setting S) (name : Name) (judged : List (Judgement × List ℕ)) (state : State S) → Few state.sessions → Few (fold (settles setting name) state judged).sessions
few-settle setting name [] state few = few
few-settle setting name ((judgement, body) ∷ judged) state few =
    let done = row setting name judgement.number judgement.seq judgement.verdict body state in
    few-settle setting name judged (settles setting name state (judgement, body))
    (few-failures setting (speaks name (tells_of judgement.number) done)
    (few-speaks name (tells_of judgement.number) done (few-row setting name judgement.number judgement.seq judgement.verdict body state few)))

few-takes_by : {S : Type 0} (setting : Setting S) (envelope : Envelope) (found : Option Session) (state : State S) → Few state.sessions → Few (takes_by setting envelope found state).sessions
few-takes_by setting envelope None state few = few
few-takes_by setting envelope (Some session) state few =
    let way = InEnvelope setting.now session.salts envelope.salt in
    let message = message_in envelope in
    let judged = judgements way (remembered session) message in
    let later = (session_after way (remembered session) message).history in
    let name = name_of session in
    few-settle setting name (zip judged (map (λ one. one.body) (messages_judged way session message))) (speaks name (opens setting later judged) state)
    (few-speaks name (opens setting later judged) state few)

found-itself : (session : Session) (sessions : List Session) → session_named (name_of session) (session ∷ sessions) ≡ Some session
found-itself session sessions = find-first (is_named (name_of session)) session sessions (names-same (name_of session) (name_of session) refl)

few-place : {S : Type 0} (sessions : List Session) (state : State S) → Few state.sessions → state.sessions ≡ sessions → length (without_first_session sessions state).sessions + 1 ≤ 256
few-place [] state few is = let none = ap (λ (sessions : List Session). length sessions) is in omega arith
few-place (session ∷ sessions) state few is =
    let N : List Session → Type 0 = λ all. length (without_session (name_of session) all) + 1 ≤ length all in
    let first : length (without_session (name_of session) (session ∷ sessions)) + 1 ≤ length (session ∷ sessions) =
    one-fewer (name_of session) (session ∷ sessions) session (found-itself session sessions) in
    let all = subst N (sym is) first in
    omega arith

few-hears : {S : Type 0} (setting : Setting S) (envelope : Envelope) (found : Option Session) (state : State S) → session_named (name_in envelope) state.sessions ≡ found → Few state.sessions
    → Few (hears_by setting envelope found state).sessions
few-hears setting envelope (Some session) state is few =
    let named_so : name_of session ≡ name_in envelope = found-named (name_in envelope) state.sessions session is in
    let N : Name → Type 0 = λ name. session_named name state.sessions ≡ Some session in
    let rest = one-fewer (name_of session) state.sessions session (subst N (sym named_so) is) in
    let all = length-append (without_session (name_of session) state.sessions) (session ∷ []) in
    omega arith
few-hears {S} setting envelope None state is few =
    cond_both (ltb (length state.sessions) sessions_max) state (without_first_session state.sessions state) (λ (placed : State S). Few (makes setting envelope placed).sessions)
    (λ room. let below = ltb-true (length state.sessions) sessions_max room in
    let all = length-append state.sessions (session_for setting envelope state.draw ∷ []) in omega arith)
    (λ full. let placed = without_first_session state.sessions state in
    let below = few-place state.sessions state few refl in
    let all = length-append placed.sessions (session_for setting envelope placed.draw ∷ []) in omega arith)

few-sent : {S : Type 0} (setting : Setting S) (owed : List Owed) (names : List Name) (state : State S) → Few state.sessions
    → Few (fold (λ so_far name. speaks name (sends setting (messages_by name owed)) so_far) state names).sessions
few-sent setting owed [] state few = few
few-sent setting owed (name ∷ names) state few =
    few-sent setting owed names (speaks name (sends setting (messages_by name owed)) state) (few-speaks name (sends setting (messages_by name owed)) state few)

few-spent : {S : Type 0} (spent : List Session) (state : State S) → Few state.sessions → Few (fold (λ so_far session. lost (name_of session) so_far) state spent).sessions
few-spent [] state few = few
few-spent (session ∷ spent) state few = few-spent spent (lost (name_of session) state) (few-lost (name_of session) state.sessions few)

few-ended : {S : Type 0} (setting : Setting S) (state : State S) → Few state.sessions → Few (ended setting state).server.sessions
few-ended setting state few =
    let sent = all_sent setting state in
    few-spent (filter is_spent sent.sessions) sent (few-sent setting state.owed (names_in state.owed) state few)

few-run : {S V : Type 0} (setting : Setting S) (place : ℕ) (job : Option Job) (serve : Step V) (service : V) (server : Server) (draw : S) → Few server.sessions
    → Few (after_run setting place job serve service server draw).0.server.sessions
few-run setting place None serve service server draw few = few-ended setting (begun server draw) few
few-run {S} setting place (Some job) serve service server draw few =
    let state = begun server draw in
    let reply = (serve service job.request).0 in
    let rest : State S = record state { jobs = without_ready place state.jobs } in
    let name : Name = record { key = job.key; session = job.session } in
    let done = speaks name (finishes setting job reply) rest in
    few-ended setting (runs setting place job reply state) (few-failures setting done (few-speaks name (finishes setting job reply) rest few))

pub few-event : {S V : Type 0} (setting : Setting S) (serve : Step V) (fresh : V) (course : Course S V) (event : Event) → Few course.server.sessions
    → Few (after_event setting serve fresh course event).server.sessions
few-event setting serve fresh course (Packet moment None) few = few
few-event setting serve fresh course (Packet moment (Some envelope)) few =
    let at = setting_at setting moment course.server in
    let state = begun course.server course.draw in
    let heard = hears at envelope state in
    few-ended at (takes at envelope state)
    (few-takes_by at envelope (session_named (name_in envelope) heard.sessions) heard
    (few-hears at envelope (session_named (name_in envelope) state.sessions) state refl few))
few-event setting serve fresh course (Work moment place) few =
    few-run (setting_at setting moment course.server) place (ready_job place course.server.jobs) serve course.service course.server course.draw few
few-event setting serve fresh course (Tick moment) few =
    let at = setting_at setting moment course.server in
    let state = begun course.server course.draw in
    few-ended at (ticks at state) (few-failures at (after_timeouts at state) (few-all at msg_wait_timeout (first_overdue at.now) (length state.jobs) state few))
few-event setting serve fresh course (Attach moment name) few =
    let at = setting_at setting moment course.server in
    few-ended at (speaks name (attaches at) (begun course.server course.draw)) (few-speaks name (attaches at) (begun course.server course.draw) few)
few-event setting serve fresh course (Loss name) few = few-lost name course.server.sessions few
few-event setting serve fresh course Restart few = omega arith

few-events : {S V : Type 0} (setting : Setting S) (serve : Step V) (fresh : V) (events : List Event) (course : Course S V) → Few course.server.sessions
    → Few (fold (after_event setting serve fresh) course events).server.sessions
few-events setting serve fresh [] course few = few
few-events setting serve fresh (event ∷ events) course few =
    few-events setting serve fresh events (after_event setting serve fresh course event) (few-event setting serve fresh course event few)

pub course-few : {S V : Type 0} (setting : Setting S) (serve : Step V) (fresh : V) (draw : S) (events : List Event) → Few (course_of setting serve fresh draw events).server.sessions
course-few setting serve fresh draw events = few-events setting serve fresh events (begun_course fresh draw) (omega arith)
