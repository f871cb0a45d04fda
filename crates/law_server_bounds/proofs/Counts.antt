-- How many messages are owed to the session of a name, how many jobs it has, and how many numbers it gave.
use Rattle.std.proofs.Common.{◌≡◌, ◌≢◌, ◌∙◌, ℕ, zero, suc, ◌+◌, ◌≤◌, Bool, true, false, cond, Some, List, [], ◌∷◌, ◌++◌, length, ap, sym, refl, arith, inl, inr}
use Rattle.std.specs.Prelude.{map}
use Rattle.std.specs.List.{filter}
use Rattle.std.proofs.lemmas.Bool.{cases_Bool, cond_both, cond-true, cond-false}
use Rattle.msg_ids.specs.Moments.{latest_moment}
use Rattle.msg_ids.specs.Counters.{Counters, after_next, room}
use Rattle.waits.specs.declared.job.Job.{Job}
use Rattle.waits.specs.declared.job.Unfinished.{Unfinished}
use Rattle.waits.specs.Jobs.{Queue, after_answer, first_job, is_of, is_ready, job_count, one_if, told, waits_for, without_first, without_ready}
use Rattle.server_rules.specs.Server.{Name, Session, is_same}
use Rattle.server_rules.specs.Event.{Owed}
use Rattle.server_rules.specs.Sending.{messages_by}
use Rattle.server_rules.specs.Waiting.{Outlook, Over, InVain, GoesOn, told as told_so}
use Rattle.law_server_bounds.proofs.Lists.{none-some}
use Rattle.law_server_bounds.proofs.Names.{names-same, same-names}

-- ---- what is owed

abbrev pub count : Name → List Owed → ℕ
count name [] = 0
count name (one ∷ owed) = one_if (is_same name one.name) + count name owed

pub count-push : (name : Name) (owed : List Owed) (one : Owed) → count name (owed ++ one ∷ []) ≡ count name owed + one_if (is_same name one.name)
count-push name [] one = omega arith
count-push name (first ∷ owed) one = let rest = count-push name owed one in omega (arith, rest)

pub count-own : (name : Name) (owed : List Owed) (one : Owed) → one.name ≡ name → count name (owed ++ one ∷ []) ≡ count name owed + 1
count-own name owed one own =
    let pushed = count-push name owed one in
    let on : one_if (is_same name one.name) ≡ 1 = cond-true (is_same name one.name) 1 0 (names-same name one.name (sym own)) in
    omega (arith, pushed, on)

pub off-name : (name other : Name) → name ≢ other → is_same name other ≡ false
off-name name other apart =
    elim (cases_Bool (is_same name other)) [ inl is ↦ absurd (apart (same-names name other is)) | inr off ↦ off ]

pub count-other : (name : Name) (owed : List Owed) (one : Owed) → name ≢ one.name → count name (owed ++ one ∷ []) ≡ count name owed
count-other name owed one apart =
    let pushed = count-push name owed one in
    let off : one_if (is_same name one.name) ≡ 0 = cond-false (is_same name one.name) 1 0 (off-name name one.name apart) in
    omega (arith, pushed, off)

pub messages-count : (name : Name) (owed : List Owed) → length (messages_by name owed) ≡ count name owed
messages-count name [] = refl
messages-count name (one ∷ owed) =
    let rest = messages-count name owed in
    elim (cases_Bool (is_same name one.name)) [
      | inl is ↦ rw is (omega (arith, rest))
      | inr is ↦ rw is (omega (arith, rest))
    ]

-- ---- jobs

abbrev pub jobs_by : Name → Queue → ℕ
jobs_by name queue = job_count name.key name.session queue

pub first-fewer : (name : Name) (test : Unfinished → Bool) (queue : Queue) → jobs_by name (without_first test queue) ≤ jobs_by name queue
first-fewer name test [] = omega arith
first-fewer name test (one ∷ queue) =
    let rest = first-fewer name test queue in
    cond_both (test one) queue (one ∷ without_first test queue) (λ (left : Queue). jobs_by name left ≤ jobs_by name (one ∷ queue)) (λ is. omega arith) (λ is. omega (arith, rest))

-- the name of a job's session
abbrev pub name_for : Job → Name
name_for job = record { key = job.key; session = job.session }

own-of : (name : Name) (one : Unfinished) → name_for one.job ≡ name → one_if (is_of name.key name.session one) ≡ 1
own-of name one own = cond-true (is_of name.key name.session one) 1 0 (names-same (name_for one.job) name own)

pub first-out : (name : Name) (test : Unfinished → Bool) (queue : Queue) (job : Job) → first_job test queue ≡ Some job → name_for job ≡ name
    → jobs_by name (without_first test queue) + 1 ≤ jobs_by name queue
first-out name test [] job is own = absurd (none-some job is)
first-out name test (one ∷ queue) job is own =
    elim (cases_Bool (test one)) [
      | inl holds ↦
          let found = sym (cond-true (test one) (Some one.job) (first_job test queue) holds) ∙ is in
          let same : one.job ≡ job = cc in
          let on = own-of name one (ap name_for same ∙ own) in
          rw holds (omega (arith, on))
      | inr fails ↦
          let rest = first-out name test queue job (sym (cond-false (test one) (Some one.job) (first_job test queue) fails) ∙ is) own in
          rw fails (omega (arith, rest))
    ]

after-same : (name : Name) (key session number : ℕ) (ok : Bool) (one : Unfinished) → is_of name.key name.session (after_answer key session number ok one) ≡ is_of name.key name.session one
after-same name key session number ok one =
    cond_both (waits_for key session number one) (told number ok one) one (λ (after : Unfinished). is_of name.key name.session after ≡ is_of name.key name.session one)
    (λ is. by ok) (λ is. refl)
  where
    by : (ok : Bool) → is_of name.key name.session (told number ok one) ≡ is_of name.key name.session one
    by true = refl
    by false = refl

all-same : (name : Name) (key session number : ℕ) (ok : Bool) (queue : Queue) → jobs_by name (map (after_answer key session number ok) queue) ≡ jobs_by name queue
all-same name key session number ok [] = refl
all-same name key session number ok (one ∷ queue) =
    let rest = all-same name key session number ok queue in
    let first = ap one_if (after-same name key session number ok one) in
    omega (arith, rest, first)

pub told-same : (name : Name) (look : Outlook) (session : Session) (number : ℕ) (queue : Queue) → jobs_by name (told_so look session number queue) ≡ jobs_by name queue
told-same name Over session number queue = all-same name session.key session.number number true queue
told-same name InVain session number queue = all-same name session.key session.number number false queue
told-same name GoesOn session number queue = refl

pub jobs-push : (name : Name) (queue : Queue) (one : Unfinished) → jobs_by name (queue ++ one ∷ []) ≡ jobs_by name queue + one_if (is_of name.key name.session one)
jobs-push name [] one = omega arith
jobs-push name (first ∷ queue) one = let rest = jobs-push name queue one in omega (arith, rest)

pub one-low : (b : Bool) → one_if b ≤ 1
one-low true = omega arith
one-low false = omega arith

pub of-other : (name : Name) (one : Unfinished) → name ≢ name_for one.job → one_if (is_of name.key name.session one) ≡ 0
of-other name one apart =
    cond-false (is_of name.key name.session one) 1 0 (off-name (name_for one.job) name (λ same. apart (sym same)))

pub filter-fewer : (name : Name) (test : Unfinished → Bool) (queue : Queue) → jobs_by name (filter test queue) ≤ jobs_by name queue
filter-fewer name test [] = omega arith
filter-fewer name test (one ∷ queue) =
    let rest = filter-fewer name test queue in
    cond_both (test one) (one ∷ filter test queue) (filter test queue) (λ (left : Queue). jobs_by name left ≤ jobs_by name (one ∷ queue)) (λ is. omega (arith, rest)) (λ is. omega (arith, rest))

pub ready-fewer : (name : Name) (place : ℕ) (queue : Queue) → jobs_by name (without_ready place queue) ≤ jobs_by name queue
ready-fewer name place [] = omega arith
ready-fewer name zero (one ∷ queue) =
    let rest = ready-fewer name zero queue in
    cond_both (is_ready one) queue (one ∷ without_ready zero queue) (λ (left : Queue). jobs_by name left ≤ jobs_by name (one ∷ queue)) (λ is. omega arith) (λ is. omega (arith, rest))
ready-fewer name (suc place) (one ∷ queue) =
    let rest = ready-fewer name (cond (is_ready one) place (suc place)) queue in omega (arith, rest)

-- ---- numbers

-- the law on room
abbrev pub FallsByOne : Type 0
FallsByOne = (counters : Counters) (now : ℕ) (content : Bool) → now ≤ latest_moment → room counters ≤ room (after_next counters now content) + 1
