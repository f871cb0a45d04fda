-- Calls that become jobs, and those that are answered in place of that.
use Rattle.std.proofs.Common.{◌≡◌, ◌∙◌, ℕ, List, Option, Some, None, ap, sym}
use Rattle.std.specs.Prelude.{not}
use Rattle.std.specs.List.{filter}
use Rattle.waits.specs.declared.job.Job.{Job}
use Rattle.waits.specs.Jobs.{Queue, accepted}
use Rattle.server_rules.specs.Server.{Session}
use Rattle.server_rules.specs.Event.{Setting, Speaker}
use Rattle.server_rules.specs.Speaking.{answers_in_place}
use Rattle.server_rules.specs.Waiting.{outlook}
use Rattle.server_rules.specs.Calls.{accepts_call, becomes_job, each_once, is_over, job_of, refusal}

-- what is left to wait for
pub left-is : (session : Session) (queue jobs : Queue) (wait once left after : List ℕ)
    → after ≡ left → left ≡ filter (λ other. not (is_over (outlook session queue other))) wait → wait ≡ once → queue ≡ jobs
    → after ≡ filter (λ other. not (is_over (outlook session jobs other))) once
left-is session queue jobs wait once left after is kept same own =
    is ∙ (kept ∙ (ap (filter (λ (other : ℕ). not (is_over (outlook session queue other)))) same
    ∙ ap (λ (q : Queue). filter (λ (other : ℕ). not (is_over (outlook session q other))) once) own))

-- the job that a call becomes
pub job-is : {S : Type 0} (setting : Setting S) (speaker : Speaker S) (number : ℕ) (numbers request : List ℕ) (key session : ℕ) (after : List ℕ)
    → key ≡ speaker.session.key → session ≡ speaker.session.number
    → after ≡ filter (λ other. not (is_over (outlook speaker.session speaker.jobs other))) (each_once numbers)
    → record { key = key; session = session; number = number; since = setting.now; after = after; request = request } ≡ job_of setting number numbers request speaker
job-is setting speaker number numbers request key session after own named left =
    let job : ℕ → ℕ → List ℕ → Job = λ k n a. record { key = k; session = n; number = number; since = setting.now; after = a; request = request } in
    ap (λ (k : ℕ). job k session after) own
    ∙ (ap (λ (n : ℕ). job speaker.session.key n after) named
    ∙ ap (λ (a : List ℕ). job speaker.session.key speaker.session.number a) left)

pub in-place : {S : Type 0} (setting : Setting S) (number : ℕ) (numbers request content : List ℕ) (job : Job) (speaker : Speaker S)
    → job ≡ job_of setting number numbers request speaker → Some content ≡ refusal setting job speaker
    → accepts_call setting number numbers request speaker ≡ answers_in_place setting number request content speaker
in-place setting number numbers request content job speaker is refused =
    let own = job_of setting number numbers request speaker in
    let told : refusal setting own speaker ≡ Some content = ap (λ (j : Job). refusal setting j speaker) (sym is) ∙ sym refused in
    ap (λ (answer : Option (List ℕ)). becomes_job setting own answer speaker) told

pub as-job : {S : Type 0} (setting : Setting S) (number : ℕ) (numbers request : List ℕ) (job : Job) (speaker : Speaker S)
    → job ≡ job_of setting number numbers request speaker → None ≡ refusal setting job speaker
    → accepts_call setting number numbers request speaker ≡ record speaker { jobs = accepted job speaker.jobs }
as-job setting number numbers request job speaker is refused =
    let own = job_of setting number numbers request speaker in
    let told : refusal setting own speaker ≡ None = ap (λ (j : Job). refusal setting j speaker) (sym is) ∙ sym refused in
    ap (λ (answer : Option (List ℕ)). becomes_job setting own answer speaker) told
    ∙ ap (λ (j : Job). record speaker { jobs = accepted j speaker.jobs }) (sym is)
