-- The jobs of one name among all jobs.
use Rattle.std.proofs.Common.{◌≡◌, ◌≢◌, ◌∙◌, ℕ, zero, suc, Bool, true, false, cond, Option, Some, None, List, [], ◌∷◌, ◌++◌, ap, sym, subst, refl, inl, inr}
use Rattle.std.specs.Prelude.{map}
use Rattle.std.specs.List.{filter}
use Rattle.std.proofs.lemmas.Bool.{cases_Bool, cond-true, cond-false, cond_both, and_parts, and_from, and_left, eqb-true, eq-eqb}
use Rattle.std.proofs.lemmas.List.Elements.{filter-append}
use Rattle.waits.specs.declared.job.Job.{Job}
use Rattle.waits.specs.declared.job.Unfinished.{Unfinished}
use Rattle.waits.specs.Jobs.{Queue, is_of, waits_for, told, after_answer, settled, first_job, without_first, ready_job, without_ready, is_ready, without_session}
use Rattle.server_rules.specs.Server.{Name}
use Rattle.law_server.specs.Order.{jobs_of}
use Rattle.law_server.proofs.Midway.{number_of}
use Rattle.law_server.proofs.Names.{name-by}

-- ---- whose a job is

pub of-key : (key session : ℕ) (one : Unfinished) → is_of key session one ≡ true → one.job.key ≡ key
of-key key session one is = let parts = and_parts _ _ is in eqb-true one.job.key key parts.0

pub of-session : (key session : ℕ) (one : Unfinished) → is_of key session one ≡ true → one.job.session ≡ session
of-session key session one is = let parts = and_parts _ _ is in eqb-true one.job.session session parts.1

pub is-of : (key session : ℕ) (one : Unfinished) → one.job.key ≡ key → one.job.session ≡ session → is_of key session one ≡ true
is-of key session one of_key of_session = and_from _ _ (eq-eqb one.job.key key of_key) (eq-eqb one.job.session session of_session)

-- it belongs to one name alone
pub of-another : (name other : Name) (one : Unfinished) → other ≢ name → is_of other.key other.session one ≡ true → is_of name.key name.session one ≡ false
of-another name other one apart is =
    elim (cases_Bool (is_of name.key name.session one)) [
      | inl own ↦
          absurd (apart (name-by other name
          (sym (of-key other.key other.session one is) ∙ of-key name.key name.session one own)
          (sym (of-session other.key other.session one is) ∙ of-session name.key name.session one own)))
      | inr fails ↦ fails
    ]

-- ---- a filter, one job after the other

pub filter-first : {X : Type 0} (p : X → Bool) (x : X) (xs : List X) → p x ≡ true → filter p (x ∷ xs) ≡ x ∷ filter p xs
filter-first p x xs is = cond-true (p x) (x ∷ filter p xs) (filter p xs) is

pub filter-other : {X : Type 0} (p : X → Bool) (x : X) (xs : List X) → p x ≡ false → filter p (x ∷ xs) ≡ filter p xs
filter-other p x xs is = cond-false (p x) (x ∷ filter p xs) (filter p xs) is

-- ---- jobs that are told of an answer

told-of : (key session number : ℕ) (ok : Bool) (one : Unfinished) → is_of key session (told number ok one) ≡ is_of key session one
told-of key session number true one = refl
told-of key session number false one = refl

told-number : (number : ℕ) (ok : Bool) (one : Unfinished) → number_of (told number ok one) ≡ number_of one
told-number number true one = refl
told-number number false one = refl

pub after-of : (key session of_key of_session number : ℕ) (ok : Bool) (one : Unfinished)
    → is_of key session (after_answer of_key of_session number ok one) ≡ is_of key session one
after-of key session of_key of_session number ok one =
    cond_both (waits_for of_key of_session number one) (told number ok one) one (λ (other : Unfinished). is_of key session other ≡ is_of key session one)
    (λ is. told-of key session number ok one) (λ is. refl)

pub after-number : (key session number : ℕ) (ok : Bool) (one : Unfinished) → number_of (after_answer key session number ok one) ≡ number_of one
after-number key session number ok one =
    cond_both (waits_for key session number one) (told number ok one) one (λ (other : Unfinished). number_of other ≡ number_of one)
    (λ is. told-number number ok one) (λ is. refl)

pub settled-own : (name : Name) (key session number : ℕ) (ok : Bool) (jobs : Queue)
    → map number_of (jobs_of name jobs) ≡ map number_of (jobs_of name (settled key session number ok jobs))
settled-own name key session number ok [] = refl
settled-own name key session number ok (one ∷ jobs) =
    let after = after_answer key session number ok one in
    elim (cases_Bool (is_of name.key name.session one)) [
      | inl is ↦
          ap (map number_of) (filter-first (is_of name.key name.session) one jobs is)
          ∙ (ap (λ (number : ℕ). number ∷ map number_of (jobs_of name jobs)) (sym (after-number key session number ok one))
          ∙ (ap (λ (numbers : List ℕ). number_of after ∷ numbers) (settled-own name key session number ok jobs)
          ∙ ap (map number_of) (sym (filter-first (is_of name.key name.session) after (settled key session number ok jobs) (after-of name.key name.session key session number ok one ∙ is)))))
      | inr fails ↦
          ap (map number_of) (filter-other (is_of name.key name.session) one jobs fails)
          ∙ (settled-own name key session number ok jobs
          ∙ ap (map number_of) (sym (filter-other (is_of name.key name.session) after (settled key session number ok jobs) (after-of name.key name.session key session number ok one ∙ fails))))
    ]

pub settled-others : (name other : Name) (number : ℕ) (ok : Bool) (jobs : Queue) → other ≢ name
    → jobs_of other (settled name.key name.session number ok jobs) ≡ jobs_of other jobs
settled-others name other number ok [] apart = refl
settled-others name other number ok (one ∷ jobs) apart =
    let after = after_answer name.key name.session number ok one in
    let rest = settled name.key name.session number ok jobs in
    elim (cases_Bool (is_of other.key other.session one)) [
      | inl is ↦
          let fails = of-another name other one apart is in
          let stays : after ≡ one = cond-false (waits_for name.key name.session number one) (told number ok one) one (and_left _ _ fails) in
          filter-first (is_of other.key other.session) after rest (after-of other.key other.session name.key name.session number ok one ∙ is)
          ∙ (ap (λ (first : Unfinished). first ∷ jobs_of other rest) stays
          ∙ (ap (λ (others : Queue). one ∷ others) (settled-others name other number ok jobs apart)
          ∙ sym (filter-first (is_of other.key other.session) one jobs is)))
      | inr fails ↦
          filter-other (is_of other.key other.session) after rest (after-of other.key other.session name.key name.session number ok one ∙ fails)
          ∙ (settled-others name other number ok jobs apart
          ∙ sym (filter-other (is_of other.key other.session) one jobs fails))
    ]

-- ---- one that is taken out

-- a job that is taken out, with those before it and those after it
pub record IsTaken (job : Job) (jobs rest : Queue) : Type 0 where
  pub before : Queue
  pub one : Unfinished
  pub after : Queue
  pub all : jobs ≡ before ++ one ∷ after
  pub others : rest ≡ before ++ after
  pub is : one.job ≡ job

pub some-same : {X : Type 0} (x y : X) → Some x ≡ Some y → x ≡ y
some-same {X} x y same =
    let get : Option X → X = λ o. elim o [ Some z ↦ z | None ↦ x ] in
    ap get same

pub none-some : {X : Type 0} (x : X) → None ≡ Some x → ⊥
none-some {X} x same =
    let P : Option X → Type 0 = λ o. elim o [ Some z ↦ ⊥ | None ↦ Unit {0} ] in
    subst P same tt

taken-later : (job : Job) (first : Unfinished) (jobs rest : Queue) → IsTaken job jobs rest → IsTaken job (first ∷ jobs) (first ∷ rest)
taken-later job first jobs rest taken = record {
  before = first ∷ taken.before;
  one = taken.one;
  after = taken.after;
  all = ap (λ (others : Queue). first ∷ others) taken.all;
  others = ap (λ (others : Queue). first ∷ others) taken.others;
  is = taken.is;
}

taken-now : (job : Job) (first : Unfinished) (jobs : Queue) → first.job ≡ job → IsTaken job (first ∷ jobs) jobs
taken-now job first jobs is = record { before = []; one = first; after = jobs; all = refl; others = refl; is = is }

pub first-taken : (test : Unfinished → Bool) (jobs : Queue) (job : Job) → first_job test jobs ≡ Some job → IsTaken job jobs (without_first test jobs)
first-taken test [] job is = absurd (none-some job is)
first-taken test (one ∷ jobs) job is =
    elim (cases_Bool (test one)) [
      | inl holds ↦
          let first : one.job ≡ job = some-same one.job job (sym (cond-true (test one) (Some one.job) (first_job test jobs) holds) ∙ is) in
          let P : Queue → Type 0 = IsTaken job (one ∷ jobs) in
          subst P (sym (cond-true (test one) jobs (one ∷ without_first test jobs) holds)) (taken-now job one jobs first)
      | inr fails ↦
          let later = first-taken test jobs job (sym (cond-false (test one) (Some one.job) (first_job test jobs) fails) ∙ is) in
          let P : Queue → Type 0 = IsTaken job (one ∷ jobs) in
          subst P (sym (cond-false (test one) jobs (one ∷ without_first test jobs) fails)) (taken-later job one jobs (without_first test jobs) later)
    ]

pub ready-taken : (place : ℕ) (jobs : Queue) (job : Job) → ready_job place jobs ≡ Some job → IsTaken job jobs (without_ready place jobs)
ready-taken place [] job is = absurd (none-some job is)
ready-taken zero (one ∷ jobs) job is =
    elim (cases_Bool (is_ready one)) [
      | inl holds ↦
          let first : one.job ≡ job = some-same one.job job (sym (cond-true (is_ready one) (Some one.job) (ready_job 0 jobs) holds) ∙ is) in
          let P : Queue → Type 0 = IsTaken job (one ∷ jobs) in
          subst P (sym (cond-true (is_ready one) jobs (one ∷ without_ready 0 jobs) holds)) (taken-now job one jobs first)
      | inr fails ↦
          let later = ready-taken 0 jobs job (sym (cond-false (is_ready one) (Some one.job) (ready_job 0 jobs) fails) ∙ is) in
          let P : Queue → Type 0 = IsTaken job (one ∷ jobs) in
          subst P (sym (cond-false (is_ready one) jobs (one ∷ without_ready 0 jobs) fails)) (taken-later job one jobs (without_ready 0 jobs) later)
    ]
ready-taken (suc place) (one ∷ jobs) job is =
    taken-later job one jobs (without_ready (cond (is_ready one) place (suc place)) jobs) (ready-taken (cond (is_ready one) place (suc place)) jobs job is)

-- ---- jobs of one name around one

pub around-own : (name : Name) (before : Queue) (one : Unfinished) (after : Queue) → is_of name.key name.session one ≡ true
    → jobs_of name (before ++ one ∷ after) ≡ jobs_of name before ++ one ∷ jobs_of name after
around-own name before one after is =
    filter-append (is_of name.key name.session) before (one ∷ after)
    ∙ ap (λ (rest : Queue). jobs_of name before ++ rest) (filter-first (is_of name.key name.session) one after is)

pub around-others : (name : Name) (before : Queue) (one : Unfinished) (after : Queue) → is_of name.key name.session one ≡ false
    → jobs_of name (before ++ one ∷ after) ≡ jobs_of name (before ++ after)
around-others name before one after is =
    filter-append (is_of name.key name.session) before (one ∷ after)
    ∙ (ap (λ (rest : Queue). jobs_of name before ++ rest) (filter-other (is_of name.key name.session) one after is)
    ∙ sym (filter-append (is_of name.key name.session) before after))

-- ---- the jobs of a session that is lost

pub lost-own : (name : Name) (jobs : Queue) → jobs_of name (without_session name.key name.session jobs) ≡ []
lost-own name [] = refl
lost-own name (one ∷ jobs) =
    elim (cases_Bool (is_of name.key name.session one)) [
      | inl is ↦ rw is (lost-own name jobs)
      | inr fails ↦ rw fails (rw fails (lost-own name jobs))
    ]

pub lost-others : (name other : Name) (jobs : Queue) → other ≢ name → jobs_of other (without_session name.key name.session jobs) ≡ jobs_of other jobs
lost-others name other [] apart = refl
lost-others name other (one ∷ jobs) apart =
    elim (cases_Bool (is_of other.key other.session one)) [
      | inl is ↦
          let fails = of-another name other one apart is in
          rw (fails, is) (ap (λ (rest : Queue). one ∷ rest) (lost-others name other jobs apart))
      | inr other_no ↦
          elim (cases_Bool (is_of name.key name.session one)) [
            | inl own ↦ rw (own, other_no) (lost-others name other jobs apart)
            | inr fails ↦ rw (fails, other_no) (lost-others name other jobs apart)
          ]
    ]
