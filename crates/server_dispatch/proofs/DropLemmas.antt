-- A call whose answer is dropped: its job, or the reply to it.
use Rattle.std.proofs.Common.{◌≡◌, ◌≢◌, ◌∙◌, ℕ, Bool, true, List, [], ◌∷◌, Option, Some, None, ap, sym, subst, refl, inl, inr, get_or}
use Rattle.std.specs.Prelude.{◌==◌, if◌then◌else◌, option_map}
use Rattle.std.specs.List.{All, filter}
use Rattle.std.proofs.lemmas.Bool.{cases_Bool, cond-false, cond-true, eqb-true, and_parts}
use Rattle.std.proofs.lemmas.List.Elements.{All-head, All-map, All-tail}
use Rattle.waits.specs.declared.job.Job.{Job}
use Rattle.waits.specs.declared.job.Unfinished.{Unfinished}
use Rattle.waits.specs.Jobs.{Queue, first_job, is_call, is_of, without_first}
use Rattle.server_rules.specs.Server.{Reply, is_kept}
use Rattle.server_rules.specs.Speaking.{dropped}
use Rattle.law_server.specs.Order.{IsUnanswered}
use Rattle.server_session.specs.declared.dropping.DroppedReply.{DroppedReply}
use Rattle.server_session.specs.Fates.{told_of, with_dropped}

some-same : {X : Type 0} (x y : X) → Some x ≡ Some y → x ≡ y
some-same {X} x y same =
    let get : Option X → X = λ o. elim o [ Some z ↦ z | None ↦ x ] in
    ap get same

none-some : {X : Type 0} (x : X) → None ≡ Some x → ⊥
none-some {X} x same =
    let P : Option X → Type 0 = λ o. elim o [ Some z ↦ ⊥ | None ↦ Unit {0} ] in
    subst P same tt

-- ---- a job that is looked for

pub looked-for : (k n key number call : ℕ) (queue jobs : Queue) (job : Option Job) → k ≡ key → n ≡ number → queue ≡ jobs
    → job ≡ first_job (is_call k n call) queue → first_job (is_call key number call) jobs ≡ job
looked-for k n key number call queue jobs job own named same is =
    sym (is ∙ (ap (λ (a : ℕ). first_job (is_call a n call) queue) own
    ∙ (ap (λ (b : ℕ). first_job (is_call key b call) queue) named
    ∙ ap (λ (q : Queue). first_job (is_call key number call) q) same)))

-- what is found passes the test
found-call : (test : Unfinished → Bool) (jobs : Queue) (job : Job) → first_job test jobs ≡ Some job → (one : Unfinished) × (one.job ≡ job) × (test one ≡ true)
found-call test [] job is = absurd (none-some job is)
found-call test (one ∷ jobs) job is =
    elim (cases_Bool (test one)) [
      | inl holds ↦ (one, some-same one.job job (sym (cond-true (test one) (Some one.job) (first_job test jobs) holds) ∙ is), holds)
      | inr fails ↦ found-call test jobs job (sym (cond-false (test one) (Some one.job) (first_job test jobs) fails) ∙ is)
    ]

-- where none is found, all stay
pub none-taken : (test : Unfinished → Bool) (jobs : Queue) → first_job test jobs ≡ None → without_first test jobs ≡ jobs
none-taken test [] is = refl
none-taken test (one ∷ jobs) is =
    elim (cases_Bool (test one)) [
      | inl holds ↦ absurd (none-some one.job (sym is ∙ cond-true (test one) (Some one.job) (first_job test jobs) holds))
      | inr fails ↦
          cond-false (test one) jobs (one ∷ without_first test jobs) fails
          ∙ ap (λ (rest : Queue). one ∷ rest) (none-taken test jobs (sym (cond-false (test one) (Some one.job) (first_job test jobs) fails) ∙ is))
    ]

-- the others, by what the job has
pub others-are : (k n key number call : ℕ) (queue jobs : Queue) (job : Job) → k ≡ key → n ≡ number → queue ≡ jobs
    → first_job (is_call key number call) jobs ≡ Some job
    → without_first (is_call k n call) queue ≡ without_first (is_call job.key job.session job.number) jobs
others-are k n key number call queue jobs job own named same is =
    let found = found-call (is_call key number call) jobs job is in
    let parts = and_parts _ _ found.2 in
    let of = and_parts _ _ parts.0 in
    let of_key : key ≡ job.key = sym (eqb-true found.0.job.key key of.0) ∙ ap (λ (j : Job). j.key) found.1 in
    let of_session : number ≡ job.session = sym (eqb-true found.0.job.session number of.1) ∙ ap (λ (j : Job). j.session) found.1 in
    let of_call : call ≡ job.number = sym (eqb-true found.0.job.number call parts.1) ∙ ap (λ (j : Job). j.number) found.1 in
    ap (λ (a : ℕ). without_first (is_call a n call) queue) (own ∙ of_key)
    ∙ (ap (λ (b : ℕ). without_first (is_call job.key b call) queue) (named ∙ of_session)
    ∙ (ap (λ (d : ℕ). without_first (is_call job.key job.session d) queue) of_call
    ∙ ap (λ (q : Queue). without_first (is_call job.key job.session job.number) q) same))

-- what holds of the numbers of the session's jobs holds of its number
pub found-holds : (P : ℕ → Type 0) (key number call : ℕ) (jobs : Queue) (job : Job) → first_job (is_call key number call) jobs ≡ Some job
    → All (λ one. P one.job.number) (filter (is_of key number) jobs) → P job.number
found-holds P key number call [] job is all = absurd (none-some job is)
found-holds P key number call (one ∷ jobs) job is all =
    let Q : Unfinished → Type 0 = λ one. P one.job.number in
    let rest = filter (is_of key number) jobs in
    elim (cases_Bool (is_call key number call one)) [
      | inl holds ↦
          (let own = (and_parts _ _ holds).0 in
          let same = some-same one.job job (sym (cond-true (is_call key number call one) (Some one.job) (first_job (is_call key number call) jobs) holds) ∙ is) in
          let here : All Q (one ∷ rest) = subst (All Q) (cond-true (is_of key number one) (one ∷ rest) rest own) all in
          subst (λ (j : Job). P j.number) same (All-head Q one rest here))
      | inr fails ↦
          (let later = sym (cond-false (is_call key number call one) (Some one.job) (first_job (is_call key number call) jobs) fails) ∙ is in
          elim (cases_Bool (is_of key number one)) [
            | inl own ↦ found-holds P key number call jobs job later (All-tail Q one rest (subst (All Q) (cond-true (is_of key number one) (one ∷ rest) rest own) all))
            | inr other ↦ found-holds P key number call jobs job later (subst (All Q) (cond-false (is_of key number one) (one ∷ rest) rest other) all)
          ])
    ]

-- ---- a reply that is dropped

pub kept-some : (found : Option Reply) (one : DroppedReply) → Some one ≡ option_map told_of found → (reply : Reply) × (found ≡ Some reply) × (one ≡ told_of reply)
kept-some None one is = absurd (none-some one (sym is))
kept-some (Some reply) one is = (reply, refl, some-same one (told_of reply) is)

pub kept-none : (found : Option Reply) → None ≡ option_map told_of found → found ≡ None
kept-none None is = refl
kept-none (Some reply) is = absurd (none-some (told_of reply) is)

dropped-call : (reply other : Reply) → (if other.number == reply.number then dropped other else other).call ≡ other.call
dropped-call reply other =
    elim (cases_Bool (other.number == reply.number)) [
      | inl same ↦ elim (cases_Bool (is_kept other)) [
        | inl kept ↦ rw (same, kept) refl
        | inr gone ↦ rw (same, gone) refl
      ]
      | inr apart ↦ rw apart refl
    ]

pub still-unanswered : (reply : Reply) (replies : List Reply) (number : ℕ) → IsUnanswered replies number → IsUnanswered (with_dropped (Some reply) replies) number
still-unanswered reply replies number none =
    All-map (λ (one : Reply). one.call ≢ number) (λ (other : Reply). if other.number == reply.number then dropped other else other) replies
    (λ k d lt e. none k d lt (sym (dropped-call reply (get_or replies k d)) ∙ e))
