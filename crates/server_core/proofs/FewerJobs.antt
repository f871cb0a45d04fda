-- A run leaves fewer jobs.
use Rattle.std.proofs.Common.{◌≡◌, ◌∙◌, ◌<◌, ◌≤◌, ℕ, zero, suc, Option, None, Some, List, [], ◌∷◌, length, sym, subst, refl, arith, inl, inr, true, false, Bool, cond}
use Rattle.std.specs.Prelude.{fold, not}
use Rattle.std.specs.List.{filter}
use Rattle.std.proofs.lemmas.Bool.{cases_Bool, cond_both, cond-false}
use Rattle.std.proofs.lemmas.List.{length-map}
use Rattle.waits.specs.declared.job.Job.{Job}
use Rattle.waits.specs.declared.job.Unfinished.{Unfinished}
use Rattle.waits.specs.Jobs.{Queue, after_answer, first_job, has_failed, is_of, is_ready, ready_count, ready_job, without_first, without_ready}
use Rattle.regs_service.specs.Served.{Step}
use Rattle.server_rules.specs.Server.{Name, Server, Session, name_of, session_named}
use Rattle.server_rules.specs.Event.{Owed, Setting, Speaker, State, lost, speaker_in, speaks, spoken_by}
use Rattle.server_rules.specs.Sending.{all_sent, messages_by, names_in, sends}
use Rattle.server_rules.specs.Speaking.{answers, answers_in_place, msg_wait_failed, records}
use Rattle.server_rules.specs.Waiting.{Outlook, Over, InVain, GoesOn, all_given_up, first_failed, first_given_up, given_up, gives_up, outlook, told}
use Rattle.server_rules.specs.Answer.{after_run, after_work, begun, ended, finishes, is_spent, runs}
use Rattle.server_core.proofs.Attached.{sends-rest}
use Rattle.server_core.proofs.Names.{none-some}
use Rattle.server_core.proofs.Worked.{ready-there}

-- ---- queues

filter-shorter : (test : Unfinished → Bool) (queue : Queue) → length (filter test queue) ≤ length queue
filter-shorter test [] = omega arith
filter-shorter test (one ∷ queue) =
    let rest = filter-shorter test queue in
    cond_both (test one) (one ∷ filter test queue) (filter test queue) (λ (left : Queue). length left ≤ length (one ∷ queue)) (λ is. omega arith) (λ is. omega arith)

first-shorter : (test : Unfinished → Bool) (queue : Queue) → length (without_first test queue) ≤ length queue
first-shorter test [] = omega arith
first-shorter test (one ∷ queue) =
    let rest = first-shorter test queue in
    cond_both (test one) queue (one ∷ without_first test queue) (λ (left : Queue). length left ≤ length (one ∷ queue)) (λ is. omega arith) (λ is. omega arith)

ready-out : (place : ℕ) (queue : Queue) (job : Job) → ready_job place queue ≡ Some job → length (without_ready place queue) < length queue
ready-out place [] job is = absurd (none-some job is)
ready-out zero (one ∷ queue) job is =
    elim (cases_Bool (is_ready one)) [
      | inl ready ↦ rw ready (omega arith)
      | inr not_so ↦
          let rest = ready-out zero queue job (sym (cond-false (is_ready one) (Some one.job) (ready_job zero queue) not_so) ∙ is) in
          rw not_so (omega (arith, rest))
    ]
ready-out (suc place) (one ∷ queue) job is =
    let rest = ready-out (cond (is_ready one) place (suc place)) queue job is in omega (arith, rest)

told-length : (look : Outlook) (session : Session) (number : ℕ) (queue : Queue) → length (told look session number queue) ≡ length queue
told-length Over session number queue = length-map queue (after_answer session.key session.number number true)
told-length InVain session number queue = length-map queue (after_answer session.key session.number number false)
told-length GoesOn session number queue = refl

-- ---- one event

-- a session that leaves no more jobs than there were speaks
abbrev LeavesNoMore : {S : Type 0} → (Speaker S → Speaker S) → Type 0
LeavesNoMore {S} speak = (speaker : Speaker S) → length (speak speaker).jobs ≤ length speaker.jobs

spoken-fewer : {S : Type 0} (found : Option Session) (speak : Speaker S → Speaker S) (state : State S) → LeavesNoMore speak
    → length (spoken_by found speak state).jobs ≤ length state.jobs
spoken-fewer None speak state fewer = omega arith
spoken-fewer (Some session) speak state fewer = fewer (speaker_in state session)

finished-fewer : {S : Type 0} (setting : Setting S) (job : Job) (reply : List ℕ) → LeavesNoMore (finishes setting job reply)
finished-fewer {S} setting job reply = λ speaker.
    let answered : Speaker S = records true job.number job.request reply (answers setting job.number reply speaker) in
    let same = told-length (outlook answered.session answered.jobs job.number) answered.session job.number answered.jobs in
    omega (arith, same)

given-fewer : {S : Type 0} (setting : Setting S) (content : List ℕ) (job : Job) → LeavesNoMore (gives_up setting content job)
given-fewer {S} setting content job = λ speaker.
    let answered : Speaker S = answers_in_place setting job.number job.request content speaker in
    let same = told-length (outlook answered.session answered.jobs job.number) answered.session job.number answered.jobs in
    omega (arith, same)

sends-fewer : {S : Type 0} (setting : Setting S) (name : Name) (owed : List Owed) → LeavesNoMore (sends setting (messages_by name owed))
sends-fewer setting name owed = λ speaker.
    let same = (sends-rest setting (messages_by name owed) speaker).jobs in
    subst (λ (jobs : Queue). length jobs ≤ length speaker.jobs) (sym same) (omega arith)

given_up-fewer : {S : Type 0} (setting : Setting S) (content : List ℕ) (found : Option Job) (state : State S)
    → length (given_up setting content found state).jobs ≤ length state.jobs
given_up-fewer setting content None state = omega arith
given_up-fewer setting content (Some job) state =
    spoken-fewer (session_named (record { key = job.key; session = job.session }) state.sessions) (gives_up setting content job) state (given-fewer setting content job)

all-fewer : {S : Type 0} (setting : Setting S) (content : List ℕ) (n : ℕ) (state : State S)
    → length (all_given_up setting content first_failed n state).jobs ≤ length state.jobs
all-fewer setting content zero state = omega arith
all-fewer {S} setting content (suc n) state =
    let left : State S = record state { jobs = without_first has_failed state.jobs } in
    let out = first-shorter has_failed state.jobs in
    let given = given_up-fewer setting content (first_job has_failed state.jobs) left in
    let rest = all-fewer setting content n (first_given_up setting content first_failed state) in
    omega (arith, out, given, rest)

sent-fewer : {S : Type 0} (setting : Setting S) (owed : List Owed) (names : List Name) (state : State S)
    → length (fold (λ (so_far : State S) (name : Name). speaks name (sends setting (messages_by name owed)) so_far) state names).jobs ≤ length state.jobs
sent-fewer setting owed [] state = omega arith
sent-fewer {S} setting owed (name ∷ names) state =
    let one = spoken-fewer (session_named name state.sessions) (sends setting (messages_by name owed)) state (sends-fewer setting name owed) in
    let rest = sent-fewer setting owed names (speaks name (sends setting (messages_by name owed)) state) in
    omega (arith, one, rest)

lost-fewer : {S : Type 0} (sessions : List Session) (state : State S) → length (fold (λ so_far session. lost (name_of session) so_far) state sessions).jobs ≤ length state.jobs
lost-fewer [] state = omega arith
lost-fewer (session ∷ sessions) state =
    let one = filter-shorter (λ one. not (is_of session.key session.number one)) state.jobs in
    let rest = lost-fewer sessions (lost (name_of session) state) in
    omega (arith, one, rest)

ended-fewer : {S : Type 0} (setting : Setting S) (state : State S) → length (ended setting state).server.jobs ≤ length state.jobs
ended-fewer {S} setting state =
    let sent : State S = all_sent setting state in
    let first = sent-fewer setting state.owed (names_in state.owed) state in
    let second = lost-fewer (filter is_spent sent.sessions) sent in
    omega (arith, first, second)

-- ---- a run

runs-fewer : {S : Type 0} (setting : Setting S) (place : ℕ) (job : Job) (reply : List ℕ) (state : State S) → ready_job place state.jobs ≡ Some job
    → length (runs setting place job reply state).jobs < length state.jobs
runs-fewer {S} setting place job reply state ready =
    let left : State S = record state { jobs = without_ready place state.jobs } in
    let name : Name = record { key = job.key; session = job.session } in
    let said : State S = speaks name (finishes setting job reply) left in
    let out = ready-out place state.jobs job ready in
    let one = spoken-fewer (session_named name left.sessions) (finishes setting job reply) left (finished-fewer setting job reply) in
    let rest = all-fewer setting msg_wait_failed (length said.jobs) said in
    omega (arith, out, one, rest)

run-fewer : {S V : Type 0} (setting : Setting S) (place : ℕ) (found : Option Job) (job : Job) (serve : Step V) (service : V) (server : Server) (draw : S)
    → found ≡ Some job → ready_job place server.jobs ≡ Some job
    → length (after_run setting place found serve service server draw).0.server.jobs < length server.jobs
run-fewer setting place None job serve service server draw is ready = absurd (none-some job is)
run-fewer {S} setting place (Some other) job serve service server draw is ready =
    let reply : List ℕ = (serve service other.request).0 in
    let first = runs-fewer setting place other reply (begun server draw) (ready ∙ sym is) in
    let last = ended-fewer setting (runs setting place other reply (begun server draw)) in
    omega (arith, first, last)

pub work-fewer : {S V : Type 0} (setting : Setting S) (place : ℕ) (serve : Step V) (service : V) (server : Server) (draw : S) → place < ready_count server.jobs
    → length (after_work setting place serve service server draw).0.server.jobs < length server.jobs
work-fewer setting place serve service server draw within =
    let there = ready-there place server.jobs within in
    run-fewer setting place (ready_job place server.jobs) there.0 serve service server draw there.1 there.1
