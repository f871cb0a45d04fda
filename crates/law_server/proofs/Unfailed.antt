-- No job that has failed is left where an event ends.
use Rattle.std.proofs.Common.{◌≡◌, ◌∙◌, ℕ, zero, suc, ◌+◌, ◌≤◌, Bool, true, false, cond, Option, Some, None, List, [], ◌∷◌, length, ap, sym, subst, refl, arith, inl, inr}
use Rattle.std.specs.Prelude.{map, fold}
use Rattle.std.specs.List.{All}
use Rattle.std.proofs.lemmas.Bool.{cases_Bool, cond-true, cond-false}
use Rattle.std.proofs.lemmas.List.Elements.{All-nil, All-cons}
use Rattle.waits.specs.declared.job.Unfinished.{Unfinished}
use Rattle.waits.specs.Jobs.{Queue, has_failed, first_job}
use Rattle.std.specs.Prelude.{not}
use Rattle.std.specs.List.{filter, zip}
use Rattle.std.proofs.lemmas.Bool.{cond_both}
use Rattle.std.proofs.lemmas.List.{length-append}
use Rattle.std.proofs.lemmas.List.Elements.{All-filter}
use Rattle.service_tl.specs.declared.lists.Message.{Message}
use Rattle.inbox.specs.Verdicts.{Judgement}
use Rattle.inbox.specs.Refusals.{InEnvelope}
use Rattle.inbox.specs.Judging.{judgements, session_after}
use Rattle.salt_line.specs.Line.{current_salt}
use Rattle.packing.specs.Packing.{packets_of, after_packets}
use Rattle.id_window.specs.History.{History}
use Rattle.waits.specs.Jobs.{is_of, settled, without_first, ready_job, without_ready, without_session as without_jobs_of}
use Rattle.waits.specs.declared.job.Job.{Job}
use Rattle.regs_service.specs.Served.{Step}
use Rattle.server_rules.specs.Server.{Name, Session, Server, Reply, name_of, session_named, is_kept, has_accepted, remembered}
use Rattle.server_rules.specs.Event.{Setting, State, Speaker, Envelope, Owed, speaker_in, spoken_by, speaks, lost}
use Rattle.server_rules.specs.Speaking.{says_again, says_it_is_new, has_said, needs_salts, msg_wait_failed}
use Rattle.server_rules.specs.Waiting.{Outlook, Over, InVain, GoesOn, told, gives_up, given_up, first_given_up, all_given_up, first_failed, after_failures, after_timeouts, tells_of}
use Rattle.server_rules.specs.Rows.{settles, row, acknowledges, acks_of}
use Rattle.server_rules.specs.Sending.{names_in, messages_by, seals, sends, all_sent}
use Rattle.server_rules.specs.Answer.{name_in, message_in, messages_judged, finishes, hears, hears_by, makes, without_first as without_first_session, opens, takes, takes_by, attaches, runs, ticks, is_spent, begun, ended, after_run}
use Rattle.server_rules.specs.Events.{Event, Packet, Work, Tick, Attach, Loss, Restart, Course, setting_at, after_event, begun_course, course_of}
use Rattle.law_server.proofs.Own.{none-some, IsTaken, first-taken}
use Rattle.law_server.proofs.Sessions.{none-taken}

-- where no first job is found, none is so
pub none-found : (test : Unfinished → Bool) (jobs : Queue) → first_job test jobs ≡ None → All (λ one. test one ≡ false) jobs
none-found test [] is = All-nil (λ (one : Unfinished). test one ≡ false)
none-found test (one ∷ jobs) is =
    elim (cases_Bool (test one)) [
      | inl holds ↦ absurd (none-some one.job (sym is ∙ cond-true (test one) (Some one.job) (first_job test jobs) holds))
      | inr fails ↦ All-cons (λ (one : Unfinished). test one ≡ false) one jobs fails (none-found test jobs (sym (cond-false (test one) (Some one.job) (first_job test jobs) fails) ∙ is))
    ]

-- ---- jobs are as many

settled-length : (key session number : ℕ) (ok : Bool) (jobs : Queue) → length (settled key session number ok jobs) ≡ length jobs
settled-length key session number ok [] = refl
settled-length key session number ok (one ∷ jobs) = let rest = settled-length key session number ok jobs in omega arith

told-length : (look : Outlook) (session : Session) (number : ℕ) (jobs : Queue) → length (told look session number jobs) ≡ length jobs
told-length Over session number jobs = settled-length session.key session.number number true jobs
told-length InVain session number jobs = settled-length session.key session.number number false jobs
told-length GoesOn session number jobs = refl

spoken-length : {S : Type 0} (found : Option Session) (setting : Setting S) (content : List ℕ) (job : Job) (state : State S)
    → length (spoken_by found (gives_up setting content job) state).jobs ≡ length state.jobs
spoken-length None setting content job state = refl
spoken-length (Some session) setting content job state = told-length _ _ job.number state.jobs

taken-length : (job : Job) (jobs rest : Queue) → IsTaken job jobs rest → length rest + 1 ≡ length jobs
taken-length job jobs rest taken =
    let all = ap (λ (queue : Queue). length queue) taken.all in
    let others = ap (λ (queue : Queue). length queue) taken.others in
    let with_one = length-append taken.before (taken.one ∷ taken.after) in
    let without = length-append taken.before taken.after in
    omega arith

-- ---- after failures none is left

empty-none : (test : Unfinished → Bool) (jobs : Queue) → length jobs ≤ 0 → first_job test jobs ≡ None
empty-none test [] short = refl
empty-none test (one ∷ jobs) short = absurd (omega arith)

abbrev gives_first : {S : Type 0} → Setting S → State S → State S
gives_first setting state = first_given_up setting msg_wait_failed first_failed state

given-none : {S : Type 0} (setting : Setting S) (state : State S) (job : Option Job) → job ≡ None
    → (given_up setting msg_wait_failed job state).jobs ≡ state.jobs
given-none setting state None is = refl
given-none setting state (Some job) is = absurd (none-some job (sym is))

stays-none : {S : Type 0} (setting : Setting S) (n : ℕ) (state : State S) → first_job has_failed state.jobs ≡ None
    → first_job has_failed (all_given_up setting msg_wait_failed first_failed n state).jobs ≡ None
stays-none setting zero state none = none
stays-none setting (suc n) state none =
    let rest = gives_first setting state in
    let same = given-none setting (record state { jobs = without_first has_failed state.jobs }) (first_job has_failed state.jobs) none ∙ none-taken has_failed state.jobs none in
    stays-none setting n rest (ap (first_job has_failed) same ∙ none)

given-some : {S : Type 0} (setting : Setting S) (state : State S) (found : Option Job) (job : Job) → found ≡ Some job
    → length (given_up setting msg_wait_failed found state).jobs ≡ length state.jobs
given-some setting state None job is = absurd (none-some job is)
given-some setting state (Some other) job is =
    spoken-length (session_named (record { key = other.key; session = other.session }) state.sessions) setting msg_wait_failed other state

by-first : {S : Type 0} (setting : Setting S) (n : ℕ) (state : State S) (found : Option Job) → first_job has_failed state.jobs ≡ found → length state.jobs ≤ suc n
    → ((rest : State S) → length rest.jobs ≤ n → first_job has_failed (all_given_up setting msg_wait_failed first_failed n rest).jobs ≡ None)
    → first_job has_failed (all_given_up setting msg_wait_failed first_failed (suc n) state).jobs ≡ None
by-first setting n state None is short rest = stays-none setting (suc n) state is
by-first {S} setting n state (Some job) is short rest =
    let without : State S = record state { jobs = without_first has_failed state.jobs } in
    let fewer = taken-length job state.jobs (without_first has_failed state.jobs) (first-taken has_failed state.jobs job is) in
    let same = given-some setting without (first_job has_failed state.jobs) job is in
    rest (gives_first setting state) (omega arith)

left-none : {S : Type 0} (setting : Setting S) (n : ℕ) (state : State S) → length state.jobs ≤ n
    → first_job has_failed (all_given_up setting msg_wait_failed first_failed n state).jobs ≡ None
left-none setting zero state short = empty-none has_failed state.jobs short
left-none setting (suc n) state short =
    by-first setting n state (first_job has_failed state.jobs) refl short (λ rest fewer. left-none setting n rest fewer)

abbrev pub Unfailed : Queue → Type 0
Unfailed jobs = All (λ one. one.failed ≡ false) jobs

pub failures-leave_none : {S : Type 0} (setting : Setting S) (state : State S) → Unfailed (after_failures setting state).jobs
failures-leave_none setting state = none-found has_failed (after_failures setting state).jobs (left-none setting (length state.jobs) state (omega arith))

-- ---- speech that changes no job

by-jobs : {S : Type 0} (found : Option Session) (speak : Speaker S → Speaker S) (state : State S) → ((speaker : Speaker S) → (speak speaker).jobs ≡ speaker.jobs)
    → (spoken_by found speak state).jobs ≡ state.jobs
by-jobs None speak state same = refl
by-jobs (Some session) speak state same = same (speaker_in state session)

pub speaks-jobs : {S : Type 0} (name : Name) (speak : Speaker S → Speaker S) (state : State S) → ((speaker : Speaker S) → (speak speaker).jobs ≡ speaker.jobs)
    → (speaks name speak state).jobs ≡ state.jobs
speaks-jobs name speak state same = by-jobs (session_named name state.sessions) speak state same

unfailed-speaks : {S : Type 0} (name : Name) (speak : Speaker S → Speaker S) (state : State S) → ((speaker : Speaker S) → (speak speaker).jobs ≡ speaker.jobs)
    → Unfailed state.jobs → Unfailed (speaks name speak state).jobs
unfailed-speaks name speak state same all = subst Unfailed (sym (speaks-jobs name speak state same)) all

unfailed-lost : (name : Name) (jobs : Queue) → Unfailed jobs → Unfailed (without_jobs_of name.key name.session jobs)
unfailed-lost name jobs all = All-filter (λ one. not (is_of name.key name.session one)) (λ (one : Unfinished). one.failed ≡ false) jobs all

acknowledges-jobs : {S : Type 0} (setting : Setting S) (numbers : List ℕ) (speaker : Speaker S) → (acknowledges setting numbers speaker).jobs ≡ speaker.jobs
acknowledges-jobs setting [] speaker = refl
acknowledges-jobs setting (number ∷ numbers) speaker = refl

cond-jobs : {S : Type 0} (test : Bool) (one other : Speaker S) → one.jobs ≡ other.jobs → (cond test one other).jobs ≡ other.jobs
cond-jobs true one other same = same
cond-jobs false one other same = refl

opens-jobs : {S : Type 0} (setting : Setting S) (history : History) (judged : List Judgement) (speaker : Speaker S) → (opens setting history judged speaker).jobs ≡ speaker.jobs
opens-jobs {S} setting history judged speaker =
    let ready : Speaker S = record speaker { session = record speaker.session { history = history } } in
    acknowledges-jobs setting (acks_of judged) (cond (has_accepted ready.session) ready (says_it_is_new setting ready))
    ∙ cond-jobs (has_accepted ready.session) ready (says_it_is_new setting ready) refl

again-jobs : {S : Type 0} (replies : List Reply) (speaker : Speaker S) → (fold (λ speaker reply. says_again reply speaker) speaker replies).jobs ≡ speaker.jobs
again-jobs [] speaker = refl
again-jobs {S} (reply ∷ replies) speaker =
    again-jobs replies (says_again reply speaker)
    ∙ cond_both (has_said reply.number speaker) speaker _ (λ (other : Speaker S). other.jobs ≡ speaker.jobs) (λ is. refl) (λ is. refl)

attaches-jobs : {S : Type 0} (setting : Setting S) (speaker : Speaker S) → (attaches setting speaker).jobs ≡ speaker.jobs
attaches-jobs setting speaker =
    again-jobs (filter is_kept speaker.session.replies) (cond (has_accepted speaker.session) speaker (says_it_is_new setting speaker))
    ∙ cond-jobs (has_accepted speaker.session) speaker (says_it_is_new setting speaker) refl

seals-jobs : {S : Type 0} (setting : Setting S) (salt : ℕ) (messages : List Message) (speaker : Speaker S) → (fold (seals setting salt) speaker messages).jobs ≡ speaker.jobs
seals-jobs setting salt [] speaker = refl
seals-jobs setting salt (message ∷ messages) speaker = seals-jobs setting salt messages (seals setting salt speaker message)

sends-jobs : {S : Type 0} (setting : Setting S) (messages : List Message) (speaker : Speaker S) → (sends setting messages speaker).jobs ≡ speaker.jobs
sends-jobs {S} setting messages speaker =
    let ready = needs_salts setting 1 speaker in
    let counters = after_packets setting.now ready.session.counters messages in
    let done : Speaker S = record ready { session = record ready.session { counters = counters } } in
    seals-jobs setting (current_salt ready.session.salts setting.now) (packets_of setting.now ready.session.counters messages) done

-- ---- events

unfailed-place : {S : Type 0} (sessions : List Session) (state : State S) → Unfailed state.jobs → Unfailed (without_first_session sessions state).jobs
unfailed-place [] state all = all
unfailed-place (session ∷ sessions) state all = unfailed-lost (name_of session) state.jobs all

unfailed-hears : {S : Type 0} (setting : Setting S) (envelope : Envelope) (found : Option Session) (state : State S) → Unfailed state.jobs → Unfailed (hears_by setting envelope found state).jobs
unfailed-hears setting envelope (Some session) state all = all
unfailed-hears {S} setting envelope None state all =
    cond_both _ state (without_first_session state.sessions state) (λ (placed : State S). Unfailed (makes setting envelope placed).jobs)
    (λ room. all) (λ full. unfailed-place state.sessions state all)

unfailed-settle : {S : Type 0} (setting : Setting S) (name : Name) (judged : List (Judgement × List ℕ)) (state : State S) → Unfailed state.jobs → Unfailed (fold (settles setting name) state judged).jobs
unfailed-settle setting name [] state all = all
unfailed-settle setting name ((judgement, body) ∷ judged) state all =
    let done = speaks name (tells_of judgement.number) (row setting name judgement.number judgement.seq judgement.verdict body state) in
    unfailed-settle setting name judged (settles setting name state (judgement, body)) (failures-leave_none setting done)

unfailed-takes_by : {S : Type 0} (setting : Setting S) (envelope : Envelope) (found : Option Session) (state : State S) → Unfailed state.jobs → Unfailed (takes_by setting envelope found state).jobs
unfailed-takes_by setting envelope None state all = all
unfailed-takes_by setting envelope (Some session) state all =
    let way = InEnvelope setting.now session.salts envelope.salt in
    let message = message_in envelope in
    let judged = judgements way (remembered session) message in
    let later = (session_after way (remembered session) message).history in
    let name = name_of session in
    unfailed-settle setting name (zip judged (map (λ one. one.body) (messages_judged way session message))) (speaks name (opens setting later judged) state)
    (unfailed-speaks name (opens setting later judged) state (opens-jobs setting later judged) all)

unfailed-sent : {S : Type 0} (setting : Setting S) (owed : List Owed) (names : List Name) (state : State S) → Unfailed state.jobs
    → Unfailed (fold (λ so_far name. speaks name (sends setting (messages_by name owed)) so_far) state names).jobs
unfailed-sent setting owed [] state all = all
unfailed-sent setting owed (name ∷ names) state all =
    unfailed-sent setting owed names (speaks name (sends setting (messages_by name owed)) state)
    (unfailed-speaks name (sends setting (messages_by name owed)) state (sends-jobs setting (messages_by name owed)) all)

unfailed-spent : {S : Type 0} (spent : List Session) (state : State S) → Unfailed state.jobs → Unfailed (fold (λ so_far session. lost (name_of session) so_far) state spent).jobs
unfailed-spent [] state all = all
unfailed-spent (session ∷ spent) state all = unfailed-spent spent (lost (name_of session) state) (unfailed-lost (name_of session) state.jobs all)

unfailed-ended : {S : Type 0} (setting : Setting S) (state : State S) → Unfailed state.jobs → Unfailed (ended setting state).server.jobs
unfailed-ended setting state all =
    let sent = all_sent setting state in
    unfailed-spent (filter is_spent sent.sessions) sent (unfailed-sent setting state.owed (names_in state.owed) state all)

unfailed-run : {S V : Type 0} (setting : Setting S) (place : ℕ) (job : Option Job) (serve : Step V) (service : V) (server : Server) (draw : S) → Unfailed server.jobs
    → Unfailed (after_run setting place job serve service server draw).0.server.jobs
unfailed-run setting place None serve service server draw all = unfailed-ended setting (begun server draw) all
unfailed-run setting place (Some job) serve service server draw all =
    let state = begun server draw in
    let reply = (serve service job.request).0 in
    let done = speaks (record { key = job.key; session = job.session }) (finishes setting job reply) (record state { jobs = without_ready place state.jobs }) in
    unfailed-ended setting (runs setting place job reply state) (failures-leave_none setting done)

pub unfailed-event : {S V : Type 0} (setting : Setting S) (serve : Step V) (fresh : V) (course : Course S V) (event : Event) → Unfailed course.server.jobs
    → Unfailed (after_event setting serve fresh course event).server.jobs
unfailed-event setting serve fresh course (Packet moment None) all = all
unfailed-event setting serve fresh course (Packet moment (Some envelope)) all =
    let at = setting_at setting moment course.server in
    let state = begun course.server course.draw in
    let heard = hears at envelope state in
    unfailed-ended at (takes at envelope state)
    (unfailed-takes_by at envelope (session_named (name_in envelope) heard.sessions) heard
    (unfailed-hears at envelope (session_named (name_in envelope) state.sessions) state all))
unfailed-event setting serve fresh course (Work moment place) all =
    unfailed-run (setting_at setting moment course.server) place (ready_job place course.server.jobs) serve course.service course.server course.draw all
unfailed-event setting serve fresh course (Tick moment) all =
    let at = setting_at setting moment course.server in
    unfailed-ended at (ticks at (begun course.server course.draw)) (failures-leave_none at (after_timeouts at (begun course.server course.draw)))
unfailed-event setting serve fresh course (Attach moment name) all =
    let at = setting_at setting moment course.server in
    unfailed-ended at (speaks name (attaches at) (begun course.server course.draw))
    (unfailed-speaks name (attaches at) (begun course.server course.draw) (attaches-jobs at) all)
unfailed-event setting serve fresh course (Loss name) all = unfailed-lost name course.server.jobs all
unfailed-event setting serve fresh course Restart all = All-nil (λ (one : Unfinished). one.failed ≡ false)

unfailed-events : {S V : Type 0} (setting : Setting S) (serve : Step V) (fresh : V) (events : List Event) (course : Course S V) → Unfailed course.server.jobs
    → Unfailed (fold (after_event setting serve fresh) course events).server.jobs
unfailed-events setting serve fresh [] course all = all
unfailed-events setting serve fresh (event ∷ events) course all =
    unfailed-events setting serve fresh events (after_event setting serve fresh course event) (unfailed-event setting serve fresh course event all)

pub course-unfailed : {S V : Type 0} (setting : Setting S) (serve : Step V) (fresh : V) (draw : S) (events : List Event)
    → Unfailed (course_of setting serve fresh draw events).server.jobs
course-unfailed setting serve fresh draw events =
    unfailed-events setting serve fresh events (begun_course fresh draw) (All-nil (λ (one : Unfinished). one.failed ≡ false))
