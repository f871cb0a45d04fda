-- Jobs that are ready, counted.
use Rattle.std.proofs.Common.{◌≡◌, ◌∙◌, ℕ, zero, suc, ◌<◌, ◌≤◌, Option, Some, None, [], ◌∷◌, ap, refl, arith, inl, inr}
use Rattle.std.specs.Prelude.{is_some}
use Rattle.std.proofs.lemmas.Bool.{cases_Bool, cond-true, cond-false}
use Rattle.sched_text.specs.declared.event.Event.TheVariants as line
use Rattle.waits.specs.declared.job.Job.{Job}
use Rattle.waits.specs.Jobs.{Queue, is_ready, one_if, ready_count, ready_job}
use Rattle.world_rules.specs.Refusals.{NoJob, refusal, unless}
use Rattle.world_rules.specs.Setting.{Setting}
use Rattle.world_rules.specs.World.{World as Rules}

-- there is one of each place below their count
pub ready-there : (place : ℕ) (jobs : Queue) → place < ready_count jobs → (job : Job) × (ready_job place jobs ≡ Some job)
ready-there place [] within = absurd (omega arith)
ready-there zero (one ∷ jobs) within =
    elim (cases_Bool (is_ready one)) [
      | inl ready ↦ (one.job, cond-true (is_ready one) (Some one.job) (ready_job zero jobs) ready)
      | inr not_so ↦
          let counts : one_if (is_ready one) ≡ 0 = ap one_if not_so in
          let rest = ready-there zero jobs (omega arith) in
          (rest.0, cond-false (is_ready one) (Some one.job) (ready_job zero jobs) not_so ∙ rest.1)
    ]
ready-there (suc place) (one ∷ jobs) within =
    elim (cases_Bool (is_ready one)) [
      | inl ready ↦
          let counts : one_if (is_ready one) ≡ 1 = ap one_if ready in
          let rest = ready-there place jobs (omega arith) in
          (rest.0, ap (λ (n : ℕ). ready_job n jobs) (cond-true (is_ready one) place (suc place) ready) ∙ rest.1)
      | inr not_so ↦
          let counts : one_if (is_ready one) ≡ 0 = ap one_if not_so in
          let rest = ready-there (suc place) jobs (omega arith) in
          (rest.0, ap (λ (n : ℕ). ready_job n jobs) (cond-false (is_ready one) place (suc place) not_so) ∙ rest.1)
    ]

-- and none of a place behind them
pub none-ready : (place : ℕ) (jobs : Queue) → ready_count jobs ≤ place → ready_job place jobs ≡ None
none-ready zero [] behind = refl
none-ready (suc place) [] behind = refl
none-ready zero (one ∷ jobs) behind =
    elim (cases_Bool (is_ready one)) [
      | inl ready ↦
          let counts : one_if (is_ready one) ≡ 1 = ap one_if ready in
          absurd (omega arith)
      | inr not_so ↦
          let counts : one_if (is_ready one) ≡ 0 = ap one_if not_so in
          cond-false (is_ready one) (Some one.job) (ready_job zero jobs) not_so ∙ none-ready zero jobs (omega arith)
    ]
none-ready (suc place) (one ∷ jobs) behind =
    elim (cases_Bool (is_ready one)) [
      | inl ready ↦
          let counts : one_if (is_ready one) ≡ 1 = ap one_if ready in
          ap (λ (n : ℕ). ready_job n jobs) (cond-true (is_ready one) place (suc place) ready) ∙ none-ready place jobs (omega arith)
      | inr not_so ↦
          let counts : one_if (is_ready one) ≡ 0 = ap one_if not_so in
          ap (λ (n : ℕ). ready_job n jobs) (cond-false (is_ready one) place (suc place) not_so) ∙ none-ready (suc place) jobs (omega arith)
    ]

-- the event of a job that is there isn't refused
pub job-free : {D V : Type 0} (setting : Setting D V) (world : Rules D V) (place : ℕ) → place < ready_count world.server.jobs
    → refusal setting world (line.Work (suc place)) ≡ None
job-free setting world place within =
    ap (λ (found : Option Job). unless (is_some found) (NoJob (suc place))) (ready-there place world.server.jobs within).1

-- that of any other is
pub no-job : {D V : Type 0} (setting : Setting D V) (world : Rules D V) (job : ℕ) → (0 < job → ready_count world.server.jobs < job)
    → refusal setting world (line.Work job) ≡ Some (NoJob job)
no-job setting world zero behind = refl
no-job setting world (suc place) behind =
    let far : ready_count world.server.jobs ≤ place = omega (arith, behind (omega arith)) in
    ap (λ (found : Option Job). unless (is_some found) (NoJob (suc place))) (none-ready place world.server.jobs far)
