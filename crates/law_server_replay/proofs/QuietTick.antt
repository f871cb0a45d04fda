-- A tick that enters nothing.
use Rattle.std.proofs.Common.{◌≡◌, ℕ, zero, suc, ◌==◌, Bool, true, Option, Some, None, [], ◌∷◌, length, if◌then◌else◌, filter, inl, inr, refl, sym, ap, subst, ◌∙◌, arith}
use Rattle.std.proofs.lemmas.Bool.{and_from, cases_Bool}
use Rattle.std.proofs.lemmas.Bool.{eq-eqb}
use Rattle.waits.specs.declared.job.Job.{Job}
use Rattle.waits.specs.declared.job.Unfinished.{Unfinished}
use Rattle.waits.specs.Jobs.{Queue, first_job, is_of, is_overdue, overdue_count, without_first}
use Rattle.server_rules.specs.Answer.{after_tick, begun, ticks}
use Rattle.server_rules.specs.Event.{Setting, State, spoken_by}
use Rattle.server_rules.specs.Server.{Name, Server, Session, session_named}
use Rattle.server_rules.specs.Speaking.{msg_wait_failed, msg_wait_timeout}
use Rattle.server_rules.specs.Waiting.{after_timeouts, all_given_up, first_failed, first_overdue, given_up, gives_up}
use Rattle.law_server.specs.Order.{AreOrdered, IsOrderlyAt, jobs_of}
use Rattle.law_server_replay.proofs.Lists.{Has, has_last, has_some}
use Rattle.law_server_replay.proofs.QuietEnd.{Entered, all_entered, ended_entered}

-- none is overdue where there is no first one
none_due : (now : ℕ) (jobs : Queue) → first_job (is_overdue now) jobs ≡ None → overdue_count now jobs ≡ 0
none_due now [] is = refl
none_due now (one ∷ jobs) is =
    elim (cases_Bool (is_overdue now one)) [
      | inl holds ↦ let e : Some one.job ≡ None = subst (λ (b : Bool). (if b then Some one.job else first_job (is_overdue now) jobs) ≡ None) holds is in absurd (cc)
      | inr fails ↦
          let rest = none_due now jobs (subst (λ (b : Bool). (if b then Some one.job else first_job (is_overdue now) jobs) ≡ None) fails is) in
          rw fails (omega (arith, rest))
    ]

-- a job that comes first is one of its session
first_there : (test : Unfinished → Bool) (jobs : Queue) (job : Job) → first_job test jobs ≡ Some job → Has (filter (is_of job.key job.session) jobs)
first_there test [] job is = absurd (cc)
first_there test (one ∷ jobs) job is =
    elim (cases_Bool (test one)) [
      | inl holds ↦
          let same : Some one.job ≡ Some job = subst (λ (b : Bool). (if b then Some one.job else first_job test jobs) ≡ Some job) holds is in
          let e : one.job ≡ job = cc in
          let own : is_of job.key job.session one ≡ true =
          and_from (one.job.key == job.key) (one.job.session == job.session) (eq-eqb one.job.key job.key (ap (λ (j : Job). j.key) e)) (eq-eqb one.job.session job.session (ap (λ (j : Job). j.session) e)) in
          rw own (one, filter (is_of job.key job.session) jobs, refl)
      | inr fails ↦
          let rest = first_there test jobs job (subst (λ (b : Bool). (if b then Some one.job else first_job test jobs) ≡ Some job) fails is) in
          elim (cases_Bool (is_of job.key job.session one)) [
            | inl own ↦ rw own (one, filter (is_of job.key job.session) jobs, refl)
            | inr other ↦ rw other rest
          ]
    ]

session_there : (found : Option Session) (jobs : Queue) → IsOrderlyAt found jobs → Has jobs → (session : Session) × (found ≡ Some session)
session_there None jobs none some = absurd (has_some jobs some none)
session_there (Some session) jobs order some = (session, refl)

module _ {S : Type 0} (setting : Setting S) (server : Server) (draw : S) (ordered : AreOrdered server.sessions server.jobs) where
  abbrev behind : State S
  behind = record (begun server draw) { jobs = without_first (is_overdue setting.now) server.jobs }

  given_found : (job : Job) (found : Option Session) (session : Session) → found ≡ Some session → Entered setting (spoken_by found (gives_up setting msg_wait_timeout job) behind)
  given_found job found session is =
      subst (λ (f : Option Session). Entered setting (spoken_by f (gives_up setting msg_wait_timeout job) behind)) (sym is) (has_last [] _)

  given_first : (job : Job) → first_job (is_overdue setting.now) server.jobs ≡ Some job → Entered setting (given_up setting msg_wait_timeout (Some job) behind)
  given_first job is =
      let name : Name = record { key = job.key; session = job.session } in
      let there = session_there (session_named name server.sessions) (jobs_of name server.jobs) (ordered.each name) (first_there (is_overdue setting.now) server.jobs job is) in
      given_found job (session_named name server.sessions) there.0 there.1

  some_given : (n : ℕ) (found : Option Job) (job : Job) → found ≡ Some job → first_job (is_overdue setting.now) server.jobs ≡ Some job
      → Entered setting (all_given_up setting msg_wait_timeout (first_overdue setting.now) n (given_up setting msg_wait_timeout found behind))
  some_given n found job same is =
      subst (λ (f : Option Job). Entered setting (all_given_up setting msg_wait_timeout (first_overdue setting.now) n (given_up setting msg_wait_timeout f behind))) (sym same)
      (all_entered setting msg_wait_timeout (first_overdue setting.now) n (given_up setting msg_wait_timeout (Some job) behind) (given_first job is))

  timed_by : (n : ℕ) (job : Job) → Has server.jobs → length server.jobs ≡ n → first_job (is_overdue setting.now) server.jobs ≡ Some job
      → Entered setting (all_given_up setting msg_wait_timeout (first_overdue setting.now) n (begun server draw))
  timed_by zero job (one, rest, some) long is = absurd (let e : length (one ∷ rest) ≡ 0 = sym (ap length some) ∙ long in omega (arith, e))
  timed_by (suc n) job some long is = some_given n (first_job (is_overdue setting.now) server.jobs) job is is

  queue_some : (test : Unfinished → Bool) (jobs : Queue) (job : Job) → first_job test jobs ≡ Some job → Has jobs
  queue_some test [] job is = absurd (cc)
  queue_some test (one ∷ jobs) job is = (one, jobs, refl)

  due_enters : (job : Job) → first_job (is_overdue setting.now) server.jobs ≡ Some job → Has (after_tick setting server draw).entries
  due_enters job is =
      let timed : State S = after_timeouts setting (begun server draw) in
      let entered : Entered setting timed = timed_by (length server.jobs) job (queue_some (is_overdue setting.now) server.jobs job is) refl is in
      ended_entered setting (ticks setting (begun server draw)) (all_entered setting msg_wait_failed first_failed (length timed.jobs) timed entered)

  none_by : (found : Option Job) → first_job (is_overdue setting.now) server.jobs ≡ found → (after_tick setting server draw).entries ≡ [] → overdue_count setting.now server.jobs ≡ 0
  none_by None is none = none_due setting.now server.jobs is
  none_by (Some job) is none = absurd (has_some _ (due_enters job is) none)

  pub none_overdue : (after_tick setting server draw).entries ≡ [] → overdue_count setting.now server.jobs ≡ 0
  none_overdue none = none_by (first_job (is_overdue setting.now) server.jobs) refl none
