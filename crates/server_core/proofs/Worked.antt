-- A ready job is run: what the event leaves.
use Rattle.std.proofs.Common.{◌≡◌, ◌≢◌, ◌∙◌, ℕ, zero, suc, ◌+◌, ◌<◌, ◌≤◌, Bool, true, cond, Option, Some, None, List, [], ◌∷◌, length, ap, sym, subst, refl, arith, inl, inr}
use Rattle.std.specs.Prelude.{◌==◌}
use Rattle.std.specs.List.{All, AllPairs, filter}
use Rattle.std.proofs.lemmas.Bool.{and_from, cases_Bool, cond-true, cond-false, eq-eqb}
use Rattle.std.proofs.lemmas.List.Elements.{All-nil}
use Rattle.id_window.specs.History.{History}
use Rattle.waits.specs.declared.job.Job.{Job}
use Rattle.waits.specs.declared.job.Unfinished.{Unfinished}
use Rattle.waits.specs.Jobs.{Queue, first_job, has_failed, is_of, is_ready, one_if, ready_count, ready_job, without_first, without_ready}
use Rattle.regs_service.specs.Served.{Step}
use Rattle.server_rules.specs.Server.{Name, Server as Rules, Session, name_of, session_named}
use Rattle.server_rules.specs.Event.{Owed, Setting, Speaker, State, speaker_in, speaks, spoken, spoken_by}
use Rattle.server_rules.specs.Answer.{after_run, after_work, begun, ended, finishes, is_spent, runs}
use Rattle.law_server.specs.Order.{AreOrdered, HasNoJob, IsOrderlyAt, IsSpeaking, IsUnanswered, WasAccepted, jobs_of}
use Rattle.server_core.specs.One.{answer_of, fails_all, fails_first, given_up_by, lost_where}
use Rattle.server_core.specs.Failures.{blocked_of, is_blocked}
use Rattle.server_core.specs.Working.{IsRunning, ran, worked}
use Rattle.server_core.proofs.Attached.{own-rest}
use Rattle.server_core.proofs.Lists.{pairs-nil}
use Rattle.server_core.proofs.Names.{found-named, named, none-some, some-same}
use Rattle.server_core.proofs.Own.{FinishesFor, GivesUpFor, IsOwn, own-ran}
use Rattle.server_core.proofs.Running.{IsUnfailed, ready-left, run-by_one}
use Rattle.server_core.proofs.Spent.{AreOthers, HasRoom, one-ends, own-name}

cons-nil : {X : Type 0} (x : X) (xs : List X) → x ∷ xs ≡ [] → ⊥
cons-nil x xs same = cc

-- there is a ready job of each place below their count
pub ready-there : (place : ℕ) (jobs : Queue) → place < ready_count jobs → (job : Job) × (ready_job place jobs ≡ Some job)
ready-there place [] within = absurd (omega arith)
ready-there zero (one ∷ jobs) within =
    elim (cases_Bool (is_ready one)) [
      | inl ready ↦ (one.job, cond-true (is_ready one) (Some one.job) (ready_job zero jobs) ready)
      | inr not_so ↦
          let counts : one_if (is_ready one) ≡ 0 = ap one_if not_so in
          let rest = ready-there zero jobs (omega arith) in
          (rest.0, cond-false (is_ready one) (Some one.job) (ready_job zero jobs) not_so ∙ rest.1)
    ]
ready-there (suc place) (one ∷ jobs) within =
    elim (cases_Bool (is_ready one)) [
      | inl ready ↦
          let counts : one_if (is_ready one) ≡ 1 = ap one_if ready in
          let rest = ready-there place jobs (omega arith) in
          (rest.0, ap (λ (n : ℕ). ready_job n jobs) (cond-true (is_ready one) place (suc place) ready) ∙ rest.1)
      | inr not_so ↦
          let counts : one_if (is_ready one) ≡ 0 = ap one_if not_so in
          let rest = ready-there (suc place) jobs (omega arith) in
          (rest.0, ap (λ (n : ℕ). ready_job n jobs) (cond-false (is_ready one) place (suc place) not_so) ∙ rest.1)
    ]

-- the session of a ready job has a job
filter-tail : {X : Type 0} (test : X → Bool) (x : X) (xs : List X) → filter test (x ∷ xs) ≡ [] → filter test xs ≡ []
filter-tail {X} test x xs none =
    elim (cases_Bool (test x)) [
      | inl is ↦ absurd (cons-nil x (filter test xs) (sym (cond-true (test x) (x ∷ filter test xs) (filter test xs) is) ∙ none))
      | inr not_so ↦ sym (cond-false (test x) (x ∷ filter test xs) (filter test xs) not_so) ∙ none
    ]

is-own : (one : Unfinished) (job : Job) → one.job ≡ job → is_of job.key job.session one ≡ true
is-own one job same =
    and_from (one.job.key == job.key) (one.job.session == job.session)
    (eq-eqb one.job.key job.key (ap (λ (job : Job). job.key) same)) (eq-eqb one.job.session job.session (ap (λ (job : Job). job.session) same))

ready-first : (one : Unfinished) (jobs : Queue) (job : Job) → one.job ≡ job → jobs_of (named job.key job.session) (one ∷ jobs) ≡ [] → ⊥
ready-first one jobs job same none =
    let test = is_of job.key job.session in
    cons-nil one (filter test jobs) (sym (cond-true (test one) (one ∷ filter test jobs) (filter test jobs) (is-own one job same)) ∙ none)

pub ready-owned : (place : ℕ) (jobs : Queue) (job : Job) → ready_job place jobs ≡ Some job → jobs_of (named job.key job.session) jobs ≡ [] → ⊥
ready-owned place [] job is none = none-some job is
ready-owned zero (one ∷ jobs) job is none =
    let later = filter-tail (is_of job.key job.session) one jobs none in
    elim (cases_Bool (is_ready one)) [
      | inl ready ↦
          ready-first one jobs job (some-same one.job job (sym (cond-true (is_ready one) (Some one.job) (ready_job zero jobs) ready) ∙ is)) none
      | inr not_so ↦
          ready-owned zero jobs job (sym (cond-false (is_ready one) (Some one.job) (ready_job zero jobs) not_so) ∙ is) later
    ]
ready-owned (suc place) (one ∷ jobs) job is none =
    ready-owned (cond (is_ready one) place (suc place)) jobs job is (filter-tail (is_of job.key job.session) one jobs none)

-- so where the server is in order, the session of a ready job stands
pub ready-stands : (server : Rules) (place : ℕ) (job : Job) → AreOrdered server.sessions server.jobs → ready_job place server.jobs ≡ Some job
    → session_named (named job.key job.session) server.sessions ≡ None → ⊥
ready-stands server place job order ready none =
    ready-owned place server.jobs job ready
    (subst (λ (found : Option Session). IsOrderlyAt found (jobs_of (named job.key job.session) server.jobs)) none (order.each (named job.key job.session)))

-- ---- the session, once its job was taken out

-- what the crate below promises of a ready job that is taken out
abbrev pub TakesReady : (S : Type 0) → Type 0
TakesReady S = (place : ℕ) (job : Job) (name : Name) (others : Name → Queue) (past : History) (opened : List ℕ) (speaker : Speaker S)
    → ready_job place speaker.jobs ≡ Some job → job.key ≡ name.key → job.session ≡ name.session
    → IsSpeaking name others past opened speaker → IsSpeaking name others past (job.number ∷ opened) (record speaker { jobs = without_ready place speaker.jobs })

-- no more jobs aren't ready
ready-blocked : (name : Name) (place : ℕ) (jobs : Queue) → blocked_of name (without_ready place jobs) ≤ blocked_of name jobs
ready-blocked name zero [] = omega arith
ready-blocked name (suc place) [] = omega arith
ready-blocked name zero (one ∷ jobs) =
    let rest = ready-blocked name zero jobs in
    let next = without_ready zero jobs in
    elim (cases_Bool (is_ready one)) [
      | inl ready ↦
          let w : blocked_of name (without_ready zero (one ∷ jobs)) ≡ blocked_of name jobs = ap (blocked_of name) (cond-true (is_ready one) jobs (one ∷ next) ready) in
          omega arith
      | inr not_so ↦
          let w : blocked_of name (without_ready zero (one ∷ jobs)) ≡ one_if (is_blocked name one) + blocked_of name next =
          ap (blocked_of name) (cond-false (is_ready one) jobs (one ∷ next) not_so) in
          omega arith
    ]
ready-blocked name (suc place) (one ∷ jobs) =
    let rest = ready-blocked name (cond (is_ready one) place (suc place)) jobs in
    omega arith

pub orderly-speaks : {S : Type 0} (name : Name) (server : Rules) (draw : S) (session : Session) → session_named name server.sessions ≡ Some session
    → AreOrdered server.sessions server.jobs → IsSpeaking name (λ other. jobs_of other server.jobs) session.history [] (speaker_in (begun server draw) session)
orderly-speaks name server draw session found order =
    let is : name_of session ≡ name = found-named name server.sessions session found in
    record {
      of_key = ap (λ (name : Name). name.key) is;
      of_session = ap (λ (name : Name). name.session) is;
      same = refl;
      midway = record {
        order = subst (λ (found : Option Session). IsOrderlyAt found (jobs_of name server.jobs)) found (order.each name);
        opened = record {
          once = pairs-nil (λ (one other : ℕ). one ≢ other);
          accepted = All-nil (λ (number : ℕ). WasAccepted number session.history);
          unanswered = All-nil (IsUnanswered session.replies);
          unfinished = All-nil (HasNoJob (jobs_of name server.jobs));
        };
      };
      apart = λ other off. refl;
    }

-- the session without the job that was taken out
abbrev pub without_its : {S : Type 0} → ℕ → Speaker S → Speaker S
without_its place speaker = record speaker { jobs = without_ready place speaker.jobs }

pub is-running : {S : Type 0} → TakesReady S → (name : Name) (server : Rules) (draw : S) (session : Session) (place : ℕ) (job : Job) (limit : ℕ)
    → session_named name server.sessions ≡ Some session → AreOrdered server.sessions server.jobs → ready_job place server.jobs ≡ Some job
    → named job.key job.session ≡ name → limit ≡ blocked_of name server.jobs
    → IsRunning name (λ other. jobs_of other server.jobs) session.history job limit (without_its place (speaker_in (begun server draw) session))
is-running {S} takes name server draw session place job limit found order ready is blocked =
    let fewer = ready-blocked name place server.jobs in
    record {
      named = found-named name server.sessions session found;
      order = takes place job name (λ other. jobs_of other server.jobs) session.history [] (speaker_in (begun server draw) session) ready
          (ap (λ (name : Name). name.key) is) (ap (λ (name : Name). name.session) is) (orderly-speaks name server draw session found order);
      unfailed = ready-left IsUnfailed place server.jobs order.unfailed;
      few = omega (arith, blocked, fewer);
    }

-- ---- the whole event

pub record IsRun (S : Type 0) (name : Name) (server : Rules) (session : Session) (place : ℕ) (job : Job) : Type 0 where
  pub found : session_named name server.sessions ≡ Some session
  pub apart : AllPairs AreOthers server.sessions
  pub room : All HasRoom server.sessions
  pub unfailed : All IsUnfailed server.jobs
  pub ready : ready_job place server.jobs ≡ Some job
  pub is : named job.key job.session ≡ name
  pub gives : GivesUpFor S
  pub ends : FinishesFor S

ran-own : {S : Type 0} (setting : Setting S) (name : Name) (server : Rules) (draw : S) (session : Session) (place : ℕ) (job : Job) (reply : List ℕ)
    → IsRun S name server session place job → IsOwn S name (ran setting job reply (without_its place (speaker_in (begun server draw) session)))
ran-own {S} setting name server draw session place job reply run =
    own-ran run.gives run.ends setting name job reply (without_its place (speaker_in (begun server draw) session))
    (record { named = found-named name server.sessions session run.found; owed = All-nil (λ (one : Owed). one.name ≡ name); sent = refl })

pub worked-name : {S : Type 0} (setting : Setting S) (name : Name) (server : Rules) (draw : S) (session : Session) (place : ℕ) (job : Job) (reply : List ℕ)
    → IsRun S name server session place job → name_of (worked setting job reply (without_its place (speaker_in (begun server draw) session))).session ≡ name
worked-name {S} setting name server draw session place job reply run =
    own-name setting (ran setting job reply (without_its place (speaker_in (begun server draw) session)))
    ∙ (ran-own setting name server draw session place job reply run).named

pub work-gives : {S V : Type 0} (setting : Setting S) (step : Step V) (service : V) (name : Name) (server : Rules) (draw : S) (session : Session) (place : ℕ) (job : Job)
    → IsRun S name server session place job
    → (after_work setting place step service server draw).0
    ≡ answer_of setting (lost_where (is_spent (worked setting job (step service job.request).0 (without_its place (speaker_in (begun server draw) session))).session) name
    (spoken (begun server draw) (worked setting job (step service job.request).0 (without_its place (speaker_in (begun server draw) session)))))
work-gives {S} {V} setting step service name server draw session place job run =
    let state : State S = begun server draw in
    let reply : List ℕ = (step service job.request).0 in
    let said : Speaker S = ran setting job reply (without_its place (speaker_in state session)) in
    let own = ran-own setting name server draw session place job reply run in
    let found_as : session_named (named job.key job.session) state.sessions ≡ Some session =
    subst (λ (name : Name). session_named name state.sessions ≡ Some session) (sym run.is) run.found in
    let first : (after_work setting place step service server draw).0 ≡ ended setting (runs setting place job reply state) =
    ap (λ (found : Option Job). (after_run setting place found step service server draw).0) run.ready in
    let one : runs setting place job reply state ≡ spoken state said = run-by_one setting place job reply state session found_as run.unfailed in
    let begins : speaks name (λ (speaker : Speaker S). said) state ≡ spoken state said =
    ap (λ (found : Option Session). spoken_by found (λ (speaker : Speaker S). said) state) run.found in
    first
    ∙ (ap (ended setting) (one ∙ sym begins)
    ∙ one-ends setting (λ (speaker : Speaker S). said) state name session run.found run.apart run.room own.named own.owed)

-- ---- the bindings stay

given-bindings : {S : Type 0} (setting : Setting S) (found : Option Job) (speaker : Speaker S) → (given_up_by setting found speaker).bindings ≡ speaker.bindings
given-bindings setting None speaker = refl
given-bindings setting (Some job) speaker = refl

fails-bindings : {S : Type 0} (setting : Setting S) (n : ℕ) (speaker : Speaker S) → (fails_all setting n speaker).bindings ≡ speaker.bindings
fails-bindings setting zero speaker = refl
fails-bindings {S} setting (suc n) speaker =
    let left : Speaker S = record speaker { jobs = without_first has_failed speaker.jobs } in
    fails-bindings setting n (fails_first setting speaker) ∙ given-bindings setting (first_job has_failed speaker.jobs) left

pub worked-bindings : {S : Type 0} (setting : Setting S) (job : Job) (reply : List ℕ) (speaker : Speaker S) → (worked setting job reply speaker).bindings ≡ speaker.bindings
worked-bindings {S} setting job reply speaker =
    let done : Speaker S = finishes setting job reply speaker in
    (own-rest setting (ran setting job reply speaker)).bindings ∙ fails-bindings setting (length done.jobs) done
