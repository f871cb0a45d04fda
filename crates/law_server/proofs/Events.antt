-- A server between events, and what each event leaves.
use Rattle.std.proofs.Common.{◌≡◌, ◌≢◌, ◌∙◌, ℕ, ◌≤◌, ltb, true, false, cond, Option, Some, None, List, [], ◌∷◌, ◌++◌, length, ap, sym, subst, refl, arith, inl, inr}
use Rattle.std.specs.Prelude.{map, fold, not}
use Rattle.std.specs.List.{filter, zip, AllPairs, All}
use Rattle.std.specs.Option.{option_or}
use Rattle.std.proofs.lemmas.Bool.{cases_Bool, cond-true, cond-false, cond_both}
use Rattle.std.proofs.lemmas.List.Kept.{AllPairs-filter}
use Rattle.std.proofs.lemmas.List.Elements.{All-nil, All-cons, All-head, All-tail}
use Rattle.std.proofs.lemmas.List.Quantifiers.{all_pairs_push}
use Rattle.std.proofs.lemmas.List.Folds.{find-append}
use Rattle.service_tl.specs.declared.item.Item.TheVariants.{DestroySession, DestroySessionOk, DestroySessionNone}
use Rattle.service_tl.specs.declared.lists.Message.{Message}
use Rattle.id_window.specs.History.{History, EachOnce}
use Rattle.msg_ids.specs.Counters.{Counters, after_next}
use Rattle.salt_line.specs.Line.{current_salt}
use Rattle.packing.specs.Packing.{groups, after_outers, after_packets, packets_of}
use Rattle.regs_service.specs.Served.{Step}
use Rattle.inbox.specs.Verdicts.{Verdict, Accepted, Again, Noticed, Judgement}
use Rattle.inbox.specs.Refusals.{InEnvelope, Way}
use Rattle.inbox.specs.Judging.{judgements, session_after, is_accepted, Session as Remembered}
use Rattle.waits.specs.declared.job.Job.{Job}
use Rattle.waits.specs.Jobs.{Queue, ready_job, without_ready, has_failed, is_overdue, without_session as without_jobs_of}
use Rattle.server_rules.specs.Server.{Name, Session, Server, name_of, is_same, is_named, session_named, without_session, Reply, is_kept, remembered, has_accepted, mark_in, sessions_max}
use Rattle.server_rules.specs.Event.{Setting, State, Speaker, Envelope, Owed, speaker_in, speaks, lost}
use Rattle.server_rules.specs.Speaking.{says, says_it_is_new, says_again, needs_salts, answers, records, msg_wait_failed, msg_wait_timeout}
use Rattle.server_rules.specs.Waiting.{tells_of, after_failures, after_timeouts}
use Rattle.server_rules.specs.Rows.{owes, row, destroys, settles, acks_of}
use Rattle.server_rules.specs.Answer.{name_in, message_in, without_first as without_first_session, session_for, makes, hears_by, hears, opens, messages_judged, takes_by, takes, finishes, runs, ticks, attaches, is_spent, begun, ended, after_run}
use Rattle.server_rules.specs.Sending.{names_in, messages_by, seals, sends, all_sent}
use Rattle.server_rules.specs.Events.{Event, Packet, Work, Tick, Attach, Loss, Restart, Course, setting_at, after_event, begun_course, course_of}
use Rattle.law_server.specs.Order.{IsOrderly, IsOrderlyAt, IsMidwayAt, IsGoingOn, IsSpeaking, jobs_of, opens_of, WasAccepted, WasCalled, IsTold}
use Rattle.law_server.proofs.Names.{cases_name, names-same, names-apart, apart-names, named}
use Rattle.law_server.proofs.Own.{ready-taken, none-some}
use Rattle.law_server.proofs.Lists.{pairs-nil}
use Rattle.law_server.proofs.Midway.{midway-given}
use Rattle.law_server.proofs.Speaking.{next-above, says_again-keeps, says-keeps, answers-keeps, tells-keeps, leaves-keeps}
use Rattle.law_server.proofs.Rows.{acknowledges-keeps, new-keeps, notices-keeps, came_again-keeps, accepts-keeps}
use Rattle.law_server.proofs.Sessions.{IsPast, Open, found-named, find-first, find-other, speaks-goes, lost-goes, taken-goes, opened_at, opened-own, opened-others, all_given-goes, lost-name, lost-other_name}
use Rattle.law_server.specs.Going.{history_in, none_open, open_by, open_only, past_in, past_with}
use Rattle.law_server.proofs.Judged.{Known, IsService, AreJudged, all-ends, judged-midway, told-after}

-- ---- between events and within one

-- all sessions and jobs, but for whether a job has failed
pub record Stand (sessions : List Session) (jobs : Queue) : Type 0 where
  pub names : AllPairs (λ one other. name_of one ≢ name_of other) sessions
  pub each : (name : Name) → IsOrderlyAt (session_named name sessions) (jobs_of name jobs)

begun-at : (session : Option Session) (jobs : Queue) → IsOrderlyAt session jobs → IsMidwayAt (history_in session) [] session jobs
begun-at None jobs is = is
begun-at (Some session) jobs is = (
  refl,
  record {
    order = is;
    opened = record {
      once = pairs-nil (λ (one other : ℕ). one ≢ other);
      accepted = All-nil (λ (number : ℕ). WasAccepted number session.history);
      unanswered = λ k d within. absurd (omega arith);
      unfinished = λ k d within. absurd (omega arith);
    };
  },
)

ended-at : (past : History) (opened : List ℕ) (session : Option Session) (jobs : Queue) → IsMidwayAt past opened session jobs → IsOrderlyAt session jobs
ended-at past opened None jobs is = is
ended-at past opened (Some session) jobs is = is.1.order

pub begun-goes : (sessions : List Session) (jobs : Queue) → Stand sessions jobs → IsGoingOn (past_in sessions) none_open sessions jobs
begun-goes sessions jobs stand = record {
  names = stand.names;
  each = λ name. begun-at (session_named name sessions) (jobs_of name jobs) (stand.each name);
}

pub goes-stand : (past : IsPast) (opened : Open) (sessions : List Session) (jobs : Queue) → IsGoingOn past opened sessions jobs → Stand sessions jobs
goes-stand past opened sessions jobs on = record {
  names = on.names;
  each = λ name. ended-at (past name) (opened name) (session_named name sessions) (jobs_of name jobs) (on.each name);
}

pub lost-stand : (name : Name) (sessions : List Session) (jobs : Queue) → Stand sessions jobs
    → Stand (without_session name sessions) (without_jobs_of name.key name.session jobs)
lost-stand name sessions jobs stand =
    goes-stand (past_in sessions) none_open (without_session name sessions) (without_jobs_of name.key name.session jobs)
    (lost-goes name (past_in sessions) none_open sessions jobs (begun-goes sessions jobs stand))

-- ---- jobs that have failed or waited too long

pub failures-go : {S : Type 0} (setting : Setting S) (past : IsPast) (opened : Open) (state : State S) → IsGoingOn past opened state.sessions state.jobs
    → IsGoingOn past opened (after_failures setting state).sessions (after_failures setting state).jobs
failures-go setting past opened state on = all_given-goes setting msg_wait_failed has_failed past opened (length state.jobs) state on

pub timeouts-go : {S : Type 0} (setting : Setting S) (past : IsPast) (opened : Open) (state : State S) → IsGoingOn past opened state.sessions state.jobs
    → IsGoingOn past opened (after_timeouts setting state).sessions (after_timeouts setting state).jobs
timeouts-go setting past opened state on = all_given-goes setting msg_wait_timeout (is_overdue setting.now) past opened (length state.jobs) state on

-- ---- a judgement is settled

-- a session speaks, and no open number changes
same-goes : {S : Type 0} (name : Name) (past : IsPast) (opened : Open) (speak : Speaker S → Speaker S) (state : State S)
    → ((others : Name → Queue) (speaker : Speaker S) → IsSpeaking name others (past name) (opened name) speaker → IsSpeaking name others (past name) (opened name) (speak speaker))
    → IsGoingOn past opened state.sessions state.jobs → IsGoingOn past opened (speaks name speak state).sessions (speaks name speak state).jobs
same-goes name past opened speak state goes on =
    speaks-goes name past past opened opened speak state (λ other apart. (refl, refl)) (λ session found others s. goes others (speaker_in state session) s) on

pub only-own : (name : Name) (numbers : List ℕ) → open_only name numbers name ≡ numbers
only-own name numbers = cond-true (is_same name name) numbers [] (names-same name name refl)

only-others : (name : Name) (numbers later : List ℕ) → (other : Name) → other ≢ name → open_only name numbers other ≡ open_only name later other
only-others name numbers later other apart =
    cond-false (is_same other name) numbers [] (apart-names other name apart) ∙ sym (cond-false (is_same other name) later [] (apart-names other name apart))

-- one session's open numbers change as it speaks
only-goes : {S : Type 0} (name : Name) (past : IsPast) (numbers later : List ℕ) (speak : Speaker S → Speaker S) (state : State S)
    → ((others : Name → Queue) (speaker : Speaker S) → IsSpeaking name others (past name) numbers speaker → IsSpeaking name others (past name) later (speak speaker))
    → IsGoingOn past (open_only name numbers) state.sessions state.jobs → IsGoingOn past (open_only name later) (speaks name speak state).sessions (speaks name speak state).jobs
only-goes {S} name past numbers later speak state goes on =
    speaks-goes name past past (open_only name numbers) (open_only name later) speak state (λ other apart. (refl, only-others name numbers later other apart))
    (λ session found others s.
    let P : List ℕ → Type 0 = λ open_numbers. IsSpeaking name others (past name) open_numbers (speaker_in state session) in
    let Q : List ℕ → Type 0 = λ open_numbers. IsSpeaking name others (past name) open_numbers (speak (speaker_in state session)) in
    subst Q (sym (only-own name later)) (goes others (speaker_in state session) (subst P (only-own name numbers) s)))
    on

owes-keeps : {S : Type 0} (setting : Setting S) (number seq : ℕ) (verdict : Verdict) (body : List ℕ) (name : Name) (past : History) (numbers : List ℕ) (others : Name → Queue) (speaker : Speaker S)
    → IsTold number verdict past
    → IsSpeaking name others past (open_by verdict number numbers) speaker → IsSpeaking name others past numbers (owes setting number seq verdict body speaker)
owes-keeps setting number seq (Noticed code) body name past numbers others speaker told s = notices-keeps setting number seq code name others past numbers speaker s
owes-keeps setting number seq (Again mark) body name past numbers others speaker told s =
    came_again-keeps setting number seq (mark_in speaker.session number) name others past numbers speaker s
owes-keeps setting number seq (Accepted item) body name past numbers others speaker told s =
    let P : History → Type 0 = λ history. WasCalled number history in
    accepts-keeps setting number item body name others past numbers speaker (λ service. subst P (sym s.same) (told.called item refl service)) s

destroys-go : {S : Type 0} (setting : Setting S) (number destroyed : ℕ) (name : Name) (past : IsPast) (numbers : List ℕ) (state : State S)
    → IsGoingOn past (open_only name (number ∷ numbers)) state.sessions state.jobs
    → IsGoingOn past (open_only name numbers) (destroys setting number destroyed name state).sessions (destroys setting number destroyed name state).jobs
destroys-go {S} setting number destroyed name past numbers state on =
    let other : Name = record name { session = destroyed } in
    cond_both _ _ _ (λ (state : State S). IsGoingOn past (open_only name numbers) state.sessions state.jobs)
    (λ is. only-goes name past (number ∷ numbers) numbers (says setting (DestroySessionOk destroyed)) (lost other state)
    (λ others speaker s. says-keeps setting (DestroySessionOk destroyed) name others (past name) numbers speaker (leaves-keeps number name others (past name) numbers speaker s))
    (lost-goes other past (open_only name (number ∷ numbers)) state.sessions state.jobs on))
    (λ is. only-goes name past (number ∷ numbers) numbers (says setting (DestroySessionNone destroyed)) state
    (λ others speaker s. says-keeps setting (DestroySessionNone destroyed) name others (past name) numbers speaker (leaves-keeps number name others (past name) numbers speaker s)) on)

row-by : {S : Type 0} (setting : Setting S) (name : Name) (number seq : ℕ) (verdict : Verdict) (body : List ℕ) (past : IsPast) (numbers : List ℕ) (state : State S)
    → IsTold number verdict (past name)
    → IsGoingOn past (open_only name (open_by verdict number numbers)) state.sessions state.jobs
    → IsGoingOn past (open_only name numbers) (speaks name (owes setting number seq verdict body) state).sessions (speaks name (owes setting number seq verdict body) state).jobs
row-by setting name number seq verdict body past numbers state told on =
    only-goes name past (open_by verdict number numbers) numbers (owes setting number seq verdict body) state
    (λ others speaker s. owes-keeps setting number seq verdict body name (past name) numbers others speaker told s) on

pub row-goes : {S : Type 0} (setting : Setting S) (name : Name) (number seq : ℕ) (verdict : Verdict) (body : List ℕ) (past : IsPast) (numbers : List ℕ) (state : State S)
    → IsTold number verdict (past name)
    → IsGoingOn past (open_only name (open_by verdict number numbers)) state.sessions state.jobs
    → IsGoingOn past (open_only name numbers) (row setting name number seq verdict body state).sessions (row setting name number seq verdict body state).jobs
row-goes setting name number seq (Accepted (DestroySession destroyed)) body past numbers state told on =
    destroys-go setting number destroyed name past numbers state on
row-goes setting name number seq (Accepted item) body past numbers state told on = row-by setting name number seq (Accepted item) body past numbers state told on
row-goes setting name number seq (Again mark) body past numbers state told on = row-by setting name number seq (Again mark) body past numbers state told on
row-goes setting name number seq (Noticed code) body past numbers state told on = row-by setting name number seq (Noticed code) body past numbers state told on

pub tells-go : {S : Type 0} (name : Name) (number : ℕ) (past : IsPast) (numbers : List ℕ) (state : State S) → IsGoingOn past (open_only name numbers) state.sessions state.jobs
    → IsGoingOn past (open_only name numbers) (speaks name (tells_of number) state).sessions (speaks name (tells_of number) state).jobs
tells-go name number past numbers state on =
    only-goes name past numbers numbers (tells_of number) state (λ others speaker s. tells-keeps number name others (past name) numbers speaker s) on

settles-go : {S : Type 0} (setting : Setting S) (name : Name) (judgement : Judgement) (body : List ℕ) (past : IsPast) (numbers : List ℕ) (state : State S)
    → IsTold judgement.number judgement.verdict (past name)
    → IsGoingOn past (open_only name (open_by judgement.verdict judgement.number numbers)) state.sessions state.jobs
    → IsGoingOn past (open_only name numbers) (settles setting name state (judgement, body)).sessions (settles setting name state (judgement, body)).jobs
settles-go setting name judgement body past numbers state told on =
    let done = row setting name judgement.number judgement.seq judgement.verdict body state in
    failures-go setting past (open_only name numbers) (speaks name (tells_of judgement.number) done)
    (tells-go name judgement.number past numbers done (row-goes setting name judgement.number judgement.seq judgement.verdict body past numbers state told on))

-- all of them, with their bodies
all-settle : {S : Type 0} (setting : Setting S) (name : Name) (judged : List Judgement) (bodies : List (List ℕ)) (past : IsPast) (state : State S)
    → All (λ judgement. IsTold judgement.number judgement.verdict (past name)) judged
    → IsGoingOn past (open_only name (opens_of judged)) state.sessions state.jobs
    → Stand (fold (settles setting name) state (zip judged bodies)).sessions (fold (settles setting name) state (zip judged bodies)).jobs
all-settle setting name [] bodies past state told on = goes-stand past (open_only name []) state.sessions state.jobs on
all-settle setting name (judgement ∷ judged) [] past state told on = goes-stand past (open_only name (opens_of (judgement ∷ judged))) state.sessions state.jobs on
all-settle setting name (judgement ∷ judged) (body ∷ bodies) past state told on =
    let P : Judgement → Type 0 = λ judgement. IsTold judgement.number judgement.verdict (past name) in
    all-settle setting name judged bodies past (settles setting name state (judgement, body)) (All-tail P judgement judged told)
    (settles-go setting name judgement body past (opens_of judged) state (All-head P judgement judged told) on)

-- ---- a packet comes

-- a session is told of its further history
pub opens-keeps : {S : Type 0} (setting : Setting S) (later : History) (judged : List Judgement) (history : History) (name : Name) (others : Name → Queue) (speaker : Speaker S)
    → EachOnce later → AreJudged judged history later
    → IsSpeaking name others history [] speaker → IsSpeaking name others later (opens_of judged) (opens setting later judged speaker)
opens-keeps {S} setting later judged history name others speaker once are s =
    let session = speaker.session in
    let ready : Speaker S = record speaker { session = record session { history = later } } in
    let P : History → Type 0 = λ history. IsOrderly history session.replies session.counters.last (jobs_of name speaker.jobs) in
    let s_ready : IsSpeaking name others later (opens_of judged) ready = record {
      of_key = s.of_key;
      of_session = s.of_session;
      same = refl;
      midway = judged-midway judged history later session.replies session.counters.last (jobs_of name speaker.jobs) once are (subst P s.same s.midway.order);
      apart = s.apart;
    } in
    acknowledges-keeps setting (acks_of judged) name others later (opens_of judged) (cond (has_accepted ready.session) ready (says_it_is_new setting ready))
    (cond_both (has_accepted ready.session) ready (says_it_is_new setting ready) (λ (speaker : Speaker S). IsSpeaking name others later (opens_of judged) speaker)
    (λ is. s_ready) (λ is. new-keeps setting name others later (opens_of judged) ready s_ready))

pub with-own-past : (name : Name) (history : History) (past : IsPast) → past_with name history past name ≡ history
unfolding past_with
with-own-past name history past = cond-true (is_same name name) history (past name) (names-same name name refl)

with-other-past : (name : Name) (history : History) (past : IsPast) (other : Name) → other ≢ name → past other ≡ past_with name history past other
unfolding past_with
with-other-past name history past other apart = sym (cond-false (is_same other name) history (past other) (apart-names other name apart))

opens-go : {S : Type 0} (setting : Setting S) (later : History) (judged : List Judgement) (name : Name) (past : IsPast) (state : State S)
    → EachOnce later → AreJudged judged (past name) later
    → IsGoingOn past none_open state.sessions state.jobs
    → IsGoingOn (past_with name later past) (open_only name (opens_of judged)) (speaks name (opens setting later judged) state).sessions (speaks name (opens setting later judged) state).jobs
opens-go {S} setting later judged name past state once are on =
    speaks-goes name past (past_with name later past) none_open (open_only name (opens_of judged)) (opens setting later judged) state
    (λ other apart. (with-other-past name later past other apart, sym (cond-false (is_same other name) (opens_of judged) [] (apart-names other name apart))))
    (λ session found others s.
    let P : List ℕ → Type 0 = λ numbers. IsSpeaking name others (past_with name later past name) numbers (opens setting later judged (speaker_in state session)) in
    let Q : History → Type 0 = λ history. IsSpeaking name others history (opens_of judged) (opens setting later judged (speaker_in state session)) in
    subst P (sym (only-own name (opens_of judged))) (subst Q (sym (with-own-past name later past))
    (opens-keeps setting later judged (past name) name others (speaker_in state session) once are s)))
    on

-- what the session that was found has
found-orderly : (name : Name) (sessions : List Session) (jobs : Queue) (session : Session) → session_named name sessions ≡ Some session
    → Stand sessions jobs → IsOrderly session.history session.replies session.counters.last (jobs_of name jobs)
found-orderly name sessions jobs session is stand =
    let P : Option Session → Type 0 = λ found. IsOrderlyAt found (jobs_of name jobs) in
    subst P is (stand.each name)

-- the session opens what it owes, with what it judged
pub opened-goes : {S : Type 0} (known : Known) (service : IsService) (setting : Setting S) (way : Way) (message : Message) (state : State S) (session : Session)
    → session_named (name_of session) state.sessions ≡ Some session → IsGoingOn (past_in state.sessions) none_open state.sessions state.jobs
    → IsGoingOn (past_with (name_of session) (session_after way (remembered session) message).history (past_in state.sessions))
    (open_only (name_of session) (opens_of (judgements way (remembered session) message)))
    (speaks (name_of session) (opens setting (session_after way (remembered session) message).history (judgements way (remembered session) message)) state).sessions
    (speaks (name_of session) (opens setting (session_after way (remembered session) message).history (judgements way (remembered session) message)) state).jobs
opened-goes {S} known service setting way message state session found on =
    let name = name_of session in
    let order = found-orderly name state.sessions state.jobs session found (goes-stand (past_in state.sessions) none_open state.sessions state.jobs on) in
    let ends = all-ends known service way session.replies message session.history order.judged order.replied.accepted in
    let later = (session_after way (remembered session) message).history in
    let later_is : later ≡ ends.later = ap (λ (session : Remembered). session.history) ends.is in
    let judged = judgements way (remembered session) message in
    let past = past_in state.sessions in
    let past_is : past name ≡ session.history = ap history_in found in
    let J : History → Type 0 = λ history. AreJudged judged history ends.later in
    let K : History → Type 0 = λ history. AreJudged judged (past name) history in
    let are : AreJudged judged (past name) later = subst K (sym later_is) (subst J (sym past_is) ends.judged) in
    let once : EachOnce later = subst EachOnce (sym later_is) ends.once in
    opens-go setting later judged name past state once are on

takes-stand : {S : Type 0} (known : Known) (service : IsService) (setting : Setting S) (envelope : Envelope) (state : State S) (found : Option Session)
    → session_named (name_in envelope) state.sessions ≡ found → Stand state.sessions state.jobs
    → Stand (takes_by setting envelope found state).sessions (takes_by setting envelope found state).jobs
takes-stand known service setting envelope state None is stand = stand
takes-stand {S} known service setting envelope state (Some session) is stand =
    let way = InEnvelope setting.now session.salts envelope.salt in
    let message = message_in envelope in
    let named_so : name_of session ≡ name_in envelope = found-named (name_in envelope) state.sessions session is in
    let N : Name → Type 0 = λ name. session_named name state.sessions ≡ Some session in
    let found : session_named (name_of session) state.sessions ≡ Some session = subst N (sym named_so) is in
    let name = name_of session in
    let order = found-orderly name state.sessions state.jobs session found stand in
    let later = (session_after way (remembered session) message).history in
    let judged = judgements way (remembered session) message in
    let past = past_in state.sessions in
    let T : History → Type 0 = λ history. All (λ judgement. IsTold judgement.number judgement.verdict history) judged in
    let told : T later = told-after known service way session.replies message session.history session.counters.last (jobs_of name state.jobs) order in
    let opened = speaks name (opens setting later judged) state in
    all-settle setting name judged (map (λ one. one.body) (messages_judged way session message)) (past_with name later past) opened
    (subst T (sym (with-own-past name later past)) told)
    (opened-goes known service setting way message state session found (begun-goes state.sessions state.jobs stand))

-- ---- a session is heard, or made

option_or-none : {X : Type 0} (found : Option X) → option_or found None ≡ found
option_or-none (Some x) = refl
option_or-none None = refl

none-named : (name : Name) (sessions : List Session) → session_named name sessions ≡ None → All (λ session. name_of session ≢ name) sessions
none-named name [] is = All-nil (λ (session : Session). name_of session ≢ name)
none-named name (first ∷ sessions) is =
    elim (cases_Bool (is_named name first)) [
      | inl holds ↦ absurd (none-some first (sym is ∙ find-first (is_named name) first sessions holds))
      | inr fails ↦
          All-cons (λ (session : Session). name_of session ≢ name) first sessions (λ same. names-apart name (name_of first) fails (sym same))
          (none-named name sessions (sym (find-other (is_named name) first sessions fails) ∙ is))
    ]

-- a session put last, under a name that no other has
put-stand : (session : Session) (sessions : List Session) (jobs : Queue) → session_named (name_of session) sessions ≡ None
    → IsOrderly session.history session.replies session.counters.last (jobs_of (name_of session) jobs)
    → ((name : Name) → name ≢ name_of session → IsOrderlyAt (session_named name sessions) (jobs_of name jobs))
    → AllPairs (λ one other. name_of one ≢ name_of other) sessions
    → Stand (sessions ++ session ∷ []) jobs
put-stand session sessions jobs none order others names = record {
  names = all_pairs_push (λ (one other : Session). name_of one ≢ name_of other) sessions session names (none-named (name_of session) sessions none);
  each = λ name.
      let all = find-append (is_named name) sessions (session ∷ []) in
      elim (cases_name name (name_of session)) [
        | inl own ↦
            let N : Name → Type 0 = λ name. session_named name sessions ≡ None in
            let none_here = subst N (sym own) none in
            let last : session_named name (session ∷ []) ≡ Some session = find-first (is_named name) session [] (names-same name (name_of session) own) in
            let found : session_named name (sessions ++ session ∷ []) ≡ Some session = all ∙ (ap (λ (found : Option Session). option_or found (session_named name (session ∷ []))) none_here ∙ last) in
            let P : Option Session → Type 0 = λ found. IsOrderlyAt found (jobs_of name jobs) in
            let Q : Name → Type 0 = λ name. IsOrderly session.history session.replies session.counters.last (jobs_of name jobs) in
            subst P (sym found) (subst Q (sym own) order)
        | inr apart ↦
            let last : session_named name (session ∷ []) ≡ None = find-other (is_named name) session [] (apart-names name (name_of session) apart) in
            let found : session_named name (sessions ++ session ∷ []) ≡ session_named name sessions =
            all ∙ (ap (option_or (session_named name sessions)) last ∙ option_or-none (session_named name sessions)) in
            let P : Option Session → Type 0 = λ found. IsOrderlyAt found (jobs_of name jobs) in
            subst P (sym found) (others name apart)
      ];
}

heard-stand : (session : Session) (sessions : List Session) (jobs : Queue) → session_named (name_of session) sessions ≡ Some session → Stand sessions jobs
    → Stand (without_session (name_of session) sessions ++ session ∷ []) jobs
heard-stand session sessions jobs is stand =
    let name = name_of session in
    put-stand session (without_session name sessions) jobs (lost-name name sessions) (found-orderly name sessions jobs session is stand)
    (λ other apart.
    let P : Option Session → Type 0 = λ found. IsOrderlyAt found (jobs_of other jobs) in
    subst P (sym (lost-other_name name other sessions apart)) (stand.each other))
    (AllPairs-filter (λ (one other : Session). name_of one ≢ name_of other) (λ session. not (is_named name session)) sessions stand.names)

-- a session of which nothing is known
fresh-orderly : (jobs : Queue) → jobs ≡ [] → IsOrderly [] [] 0 jobs
fresh-orderly jobs is =
    let P : Queue → Type 0 = IsOrderly [] [] 0 in
    subst P (sym is) (record {
      judged = λ i j d below within. absurd (omega arith);
      replied = record {
        accepted = λ k d within. absurd (omega arith);
        once = λ i j d below within. absurd (omega arith);
        rising = λ i j d below within. absurd (omega arith);
        given = λ k d within. absurd (omega arith);
      };
      unfinished = record {
        called = λ k d within. absurd (omega arith);
        unanswered = λ k d within. absurd (omega arith);
        once = λ i j d below within. absurd (omega arith);
      };
    })

made-stand : {S : Type 0} (setting : Setting S) (envelope : Envelope) (state : State S) → session_named (name_in envelope) state.sessions ≡ None → Stand state.sessions state.jobs
    → Stand (makes setting envelope state).sessions (makes setting envelope state).jobs
made-stand setting envelope state none stand =
    let session = session_for setting envelope state.draw in
    let P : Option Session → Type 0 = λ found. IsOrderlyAt found (jobs_of (name_in envelope) state.jobs) in
    put-stand session state.sessions state.jobs none (fresh-orderly (jobs_of (name_in envelope) state.jobs) (subst P none (stand.each (name_in envelope))))
    (λ other apart. stand.each other) stand.names

-- where a place is made, a session that isn't there isn't there still
place-none : {S : Type 0} (name : Name) (sessions : List Session) (state : State S) → session_named name state.sessions ≡ None
    → session_named name (without_first_session sessions state).sessions ≡ None
place-none name [] state none = none
place-none name (session ∷ sessions) state none =
    elim (cases_name name (name_of session)) [
      | inl own ↦
          let P : Name → Type 0 = λ name. session_named name (without_session (name_of session) state.sessions) ≡ None in
          subst P (sym own) (lost-name (name_of session) state.sessions)
      | inr apart ↦ lost-other_name (name_of session) name state.sessions apart ∙ none
    ]

place-stand : {S : Type 0} (sessions : List Session) (state : State S) → Stand state.sessions state.jobs
    → Stand (without_first_session sessions state).sessions (without_first_session sessions state).jobs
place-stand [] state stand = stand
place-stand (session ∷ sessions) state stand = lost-stand (name_of session) state.sessions state.jobs stand

pub hears-stand : {S : Type 0} (setting : Setting S) (envelope : Envelope) (state : State S) (found : Option Session)
    → session_named (name_in envelope) state.sessions ≡ found → Stand state.sessions state.jobs
    → Stand (hears_by setting envelope found state).sessions (hears_by setting envelope found state).jobs
hears-stand setting envelope state (Some session) is stand =
    let named_so : name_of session ≡ name_in envelope = found-named (name_in envelope) state.sessions session is in
    let N : Name → Type 0 = λ name. session_named name state.sessions ≡ Some session in
    heard-stand session state.sessions state.jobs (subst N (sym named_so) is) stand
hears-stand {S} setting envelope state None is stand =
    cond_both (ltb (length state.sessions) sessions_max) state (without_first_session state.sessions state)
    (λ (placed : State S). Stand (makes setting envelope placed).sessions (makes setting envelope placed).jobs)
    (λ room. made-stand setting envelope state is stand)
    (λ full. made-stand setting envelope (without_first_session state.sessions state) (place-none (name_in envelope) state.sessions state is)
    (place-stand state.sessions state stand))

pub takes-go : {S : Type 0} (known : Known) (service : IsService) (setting : Setting S) (envelope : Envelope) (state : State S) → Stand state.sessions state.jobs
    → Stand (takes setting envelope state).sessions (takes setting envelope state).jobs
takes-go known service setting envelope state stand =
    let heard = hears setting envelope state in
    takes-stand known service setting envelope heard (session_named (name_in envelope) heard.sessions) refl
    (hears-stand setting envelope state (session_named (name_in envelope) state.sessions) refl stand)

-- ---- other events

-- a speech that leaves open numbers as they are leaves all in order
speaks-stand : {S : Type 0} (name : Name) (speak : Speaker S → Speaker S) (state : State S)
    → ((past : History) (others : Name → Queue) (speaker : Speaker S) → IsSpeaking name others past [] speaker → IsSpeaking name others past [] (speak speaker))
    → Stand state.sessions state.jobs → Stand (speaks name speak state).sessions (speaks name speak state).jobs
speaks-stand name speak state keeps stand =
    let past = past_in state.sessions in
    goes-stand past none_open (speaks name speak state).sessions (speaks name speak state).jobs
    (same-goes name past none_open speak state (keeps (past name)) (begun-goes state.sessions state.jobs stand))

pub ticks-stand : {S : Type 0} (setting : Setting S) (state : State S) → Stand state.sessions state.jobs → Stand (ticks setting state).sessions (ticks setting state).jobs
ticks-stand setting state stand =
    let past = past_in state.sessions in
    let after = after_timeouts setting state in
    goes-stand past none_open (ticks setting state).sessions (ticks setting state).jobs
    (failures-go setting past none_open after (timeouts-go setting past none_open state (begun-goes state.sessions state.jobs stand)))

pub finishes-keeps : {S : Type 0} (setting : Setting S) (job : Job) (reply : List ℕ) (name : Name) (others : Name → Queue) (past : History) (opened : List ℕ) (speaker : Speaker S)
    → IsSpeaking name others past (job.number ∷ opened) speaker → IsSpeaking name others past opened (finishes setting job reply speaker)
finishes-keeps setting job reply name others past opened speaker s =
    tells-keeps job.number name others past opened (records true job.number job.request reply (answers setting job.number reply speaker))
    (answers-keeps setting job.number reply name others past opened speaker s)

pub runs-stand : {S : Type 0} (setting : Setting S) (place : ℕ) (job : Job) (reply : List ℕ) (state : State S) → ready_job place state.jobs ≡ Some job
    → Stand state.sessions state.jobs → Stand (runs setting place job reply state).sessions (runs setting place job reply state).jobs
runs-stand {S} setting place job reply state is stand =
    let past = past_in state.sessions in
    let name = named job.key job.session in
    let rest : State S = record state { jobs = without_ready place state.jobs } in
    let done = speaks name (finishes setting job reply) rest in
    goes-stand past none_open (after_failures setting done).sessions (after_failures setting done).jobs
    (failures-go setting past none_open done
    (speaks-goes name past past (opened_at name job.number none_open) none_open (finishes setting job reply) rest
    (λ other apart. (refl, opened-others name other job.number none_open apart))
    (λ session found others s.
    let P : List ℕ → Type 0 = λ numbers. IsSpeaking name others (past name) numbers (speaker_in rest session) in
    finishes-keeps setting job reply name others (past name) [] (speaker_in rest session) (subst P (opened-own name job.number none_open) s))
    (taken-goes past none_open state.sessions name job state.jobs (without_ready place state.jobs) (ready-taken place state.jobs job is) refl refl
    (begun-goes state.sessions state.jobs stand))))

attached-keeps : {S : Type 0} (replies : List Reply) (name : Name) (others : Name → Queue) (past : History) (speaker : Speaker S)
    → IsSpeaking name others past [] speaker → IsSpeaking name others past [] (fold (λ speaker reply. says_again reply speaker) speaker replies)
attached-keeps [] name others past speaker s = s
attached-keeps (reply ∷ replies) name others past speaker s =
    attached-keeps replies name others past (says_again reply speaker) (says_again-keeps reply name others past [] speaker s)

pub attaches-keeps : {S : Type 0} (setting : Setting S) (name : Name) (others : Name → Queue) (past : History) (speaker : Speaker S)
    → IsSpeaking name others past [] speaker → IsSpeaking name others past [] (attaches setting speaker)
attaches-keeps {S} setting name others past speaker s =
    attached-keeps (filter is_kept speaker.session.replies) name others past (cond (has_accepted speaker.session) speaker (says_it_is_new setting speaker))
    (cond_both (has_accepted speaker.session) speaker (says_it_is_new setting speaker) (λ (speaker : Speaker S). IsSpeaking name others past [] speaker)
    (λ is. s) (λ is. new-keeps setting name others past [] speaker s))

pub attaches-stand : {S : Type 0} (setting : Setting S) (name : Name) (state : State S) → Stand state.sessions state.jobs
    → Stand (speaks name (attaches setting) state).sessions (speaks name (attaches setting) state).jobs
attaches-stand setting name state stand =
    speaks-stand name (attaches setting) state (λ past others speaker s. attaches-keeps setting name others past speaker s) stand

-- ---- the end of an event

outers-above : (now : ℕ) (counters : Counters) (groups : List (List Message)) → counters.last ≤ (after_outers now counters groups).last
outers-above now counters [] = omega arith
outers-above now counters ([] ∷ groups) =
    let after = after_next counters now false in
    let above = next-above counters.last now in
    let rest = outers-above now after groups in omega arith
outers-above now counters ((message ∷ []) ∷ groups) = outers-above now counters groups
outers-above now counters ((message ∷ (other ∷ messages)) ∷ groups) =
    let after = after_next counters now false in
    let above = next-above counters.last now in
    let rest = outers-above now after groups in omega arith

seals-keeps : {S : Type 0} (setting : Setting S) (salt : ℕ) (messages : List Message) (name : Name) (others : Name → Queue) (past : History) (opened : List ℕ) (speaker : Speaker S)
    → IsSpeaking name others past opened speaker → IsSpeaking name others past opened (fold (seals setting salt) speaker messages)
seals-keeps setting salt [] name others past opened speaker s = s
seals-keeps setting salt (message ∷ messages) name others past opened speaker s =
    seals-keeps setting salt messages name others past opened (seals setting salt speaker message) s

pub sends-keeps : {S : Type 0} (setting : Setting S) (messages : List Message) (name : Name) (others : Name → Queue) (past : History) (opened : List ℕ) (speaker : Speaker S)
    → IsSpeaking name others past opened speaker → IsSpeaking name others past opened (sends setting messages speaker)
sends-keeps {S} setting messages name others past opened speaker s =
    let ready = needs_salts setting 1 speaker in
    let counters = after_packets setting.now ready.session.counters messages in
    let numbered : Speaker S = record ready { session = record ready.session { counters = counters } } in
    seals-keeps setting (current_salt ready.session.salts setting.now) (packets_of setting.now ready.session.counters messages) name others past opened numbered
    (record {
      of_key = s.of_key;
      of_session = s.of_session;
      same = s.same;
      midway =
          midway-given opened speaker.session.history speaker.session.replies speaker.session.counters.last counters.last (jobs_of name speaker.jobs)
          (outers-above setting.now speaker.session.counters (groups messages)) s.midway;
      apart = s.apart;
    })

sent-by : {S : Type 0} (setting : Setting S) (owed : List Owed) (names : List Name) (state : State S) → Stand state.sessions state.jobs
    → Stand (fold (λ so_far name. speaks name (sends setting (messages_by name owed)) so_far) state names).sessions
    (fold (λ so_far name. speaks name (sends setting (messages_by name owed)) so_far) state names).jobs
sent-by setting owed [] state stand = stand
sent-by setting owed (name ∷ names) state stand =
    sent-by setting owed names (speaks name (sends setting (messages_by name owed)) state)
    (speaks-stand name (sends setting (messages_by name owed)) state
    (λ past others speaker s. sends-keeps setting (messages_by name owed) name others past [] speaker s) stand)

pub sent-stand : {S : Type 0} (setting : Setting S) (state : State S) → Stand state.sessions state.jobs
    → Stand (all_sent setting state).sessions (all_sent setting state).jobs
sent-stand setting state stand = sent-by setting state.owed (names_in state.owed) state stand

all-lost : {S : Type 0} (spent : List Session) (state : State S) → Stand state.sessions state.jobs
    → Stand (fold (λ so_far session. lost (name_of session) so_far) state spent).sessions (fold (λ so_far session. lost (name_of session) so_far) state spent).jobs
all-lost [] state stand = stand
all-lost (session ∷ spent) state stand = all-lost spent (lost (name_of session) state) (lost-stand (name_of session) state.sessions state.jobs stand)

pub ended-stand : {S : Type 0} (setting : Setting S) (state : State S) → Stand state.sessions state.jobs
    → Stand (ended setting state).server.sessions (ended setting state).server.jobs
ended-stand setting state stand =
    let sent = all_sent setting state in
    all-lost (filter is_spent sent.sessions) sent (sent-stand setting state stand)

-- ---- events

run-stand : {S V : Type 0} (setting : Setting S) (place : ℕ) (job : Option Job) (serve : Step V) (service : V) (server : Server) (draw : S)
    → ready_job place server.jobs ≡ job → Stand server.sessions server.jobs
    → Stand (after_run setting place job serve service server draw).0.server.sessions (after_run setting place job serve service server draw).0.server.jobs
run-stand setting place None serve service server draw is stand = ended-stand setting (begun server draw) stand
run-stand setting place (Some job) serve service server draw is stand =
    let reply = (serve service job.request).0 in
    ended-stand setting (runs setting place job reply (begun server draw)) (runs-stand setting place job reply (begun server draw) is stand)

nothing-stands : Stand [] []
nothing-stands = record { names = λ i j d below within. absurd (omega arith); each = λ name. refl }

pub event-stands : {S V : Type 0} (known : Known) (service : IsService) (setting : Setting S) (serve : Step V) (fresh : V) (course : Course S V) (event : Event)
    → Stand course.server.sessions course.server.jobs
    → Stand (after_event setting serve fresh course event).server.sessions (after_event setting serve fresh course event).server.jobs
event-stands known service setting serve fresh course (Packet moment None) stand = stand
event-stands known service setting serve fresh course (Packet moment (Some envelope)) stand =
    let at = setting_at setting moment course.server in
    ended-stand at (takes at envelope (begun course.server course.draw)) (takes-go known service at envelope (begun course.server course.draw) stand)
event-stands known service setting serve fresh course (Work moment place) stand =
    run-stand (setting_at setting moment course.server) place (ready_job place course.server.jobs) serve course.service course.server course.draw refl stand
event-stands known service setting serve fresh course (Tick moment) stand =
    let at = setting_at setting moment course.server in
    ended-stand at (ticks at (begun course.server course.draw)) (ticks-stand at (begun course.server course.draw) stand)
event-stands known service setting serve fresh course (Attach moment name) stand =
    let at = setting_at setting moment course.server in
    ended-stand at (speaks name (attaches at) (begun course.server course.draw)) (attaches-stand at name (begun course.server course.draw) stand)
event-stands known service setting serve fresh course (Loss name) stand = lost-stand name course.server.sessions course.server.jobs stand
event-stands known service setting serve fresh course Restart stand = nothing-stands

pub events-stand : {S V : Type 0} (known : Known) (service : IsService) (setting : Setting S) (serve : Step V) (fresh : V) (events : List Event) (course : Course S V)
    → Stand course.server.sessions course.server.jobs
    → Stand (fold (after_event setting serve fresh) course events).server.sessions (fold (after_event setting serve fresh) course events).server.jobs
events-stand known service setting serve fresh [] course stand = stand
events-stand known service setting serve fresh (event ∷ events) course stand =
    events-stand known service setting serve fresh events (after_event setting serve fresh course event) (event-stands known service setting serve fresh course event stand)

pub course-stands : {S V : Type 0} (known : Known) (service : IsService) (setting : Setting S) (serve : Step V) (fresh : V) (draw : S) (events : List Event)
    → Stand (course_of setting serve fresh draw events).server.sessions (course_of setting serve fresh draw events).server.jobs
course-stands known service setting serve fresh draw events =
    events-stand known service setting serve fresh events (begun_course fresh draw) nothing-stands
