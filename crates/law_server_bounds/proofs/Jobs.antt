-- Jobs that are told, taken out or lost stay within the limits, and one that is let in where there is room does.
use Rattle.std.proofs.Common.{◌≡◌, ◌∙◌, ℕ, zero, suc, ◌+◌, ◌*◌, ◌≤◌, Bool, true, false, cond, Option, Some, None, List, [], ◌∷◌, ◌++◌, length, ap, sym, subst, refl, arith, inl, inr}
use Rattle.std.specs.Prelude.{map, nat_le, nat_lt, ◌==◌, ◌||◌, ◌⊎◌, not, if◌then◌else◌}
use Rattle.std.specs.List.{filter}
use Rattle.std.proofs.lemmas.Bool.{cases_Bool, cond-true, cond-false, cond_both, and_parts, eqb-true, leb-false, ltb-false, false≢true}
use Rattle.waits.specs.Limits.{most_jobs, most_job_bytes, number_bytes}
use Rattle.waits.specs.declared.job.Job.{Job}
use Rattle.waits.specs.declared.job.Unfinished.{Unfinished}
use Rattle.waits.specs.Jobs.{Queue, AreWithinLimits, is_of, accepted, after_answer, told, waits_for, without_number, settled, without_first, without_ready, is_ready, without_session, total, one_if, job_count, job_bytes, load_of}
use Rattle.server_rules.specs.Server.{Session}
use Rattle.server_rules.specs.Event.{Speaker}
use Rattle.server_rules.specs.Calls.{is_full}
use Rattle.server_rules.specs.Waiting.{Outlook, Over, InVain, GoesOn, told as told_so}

-- one queue has no more of each measure of a job than the other
abbrev pub IsLess : Queue → Queue → Type 0
IsLess one other = (measure : Unfinished → ℕ) → total measure one ≤ total measure other

first-less : (test : Unfinished → Bool) (queue : Queue) → IsLess (without_first test queue) queue
first-less test [] = λ measure. omega arith
first-less test (one ∷ queue) = λ measure.
    let rest = first-less test queue measure in
    cond_both (test one) queue (one ∷ without_first test queue) (λ (left : Queue). total measure left ≤ total measure (one ∷ queue)) (λ is. omega arith) (λ is. omega arith)

ready-less : (place : ℕ) (queue : Queue) → IsLess (without_ready place queue) queue
ready-less place [] = λ measure. omega arith
ready-less zero (one ∷ queue) = λ measure.
    let rest = ready-less zero queue measure in
    cond_both (is_ready one) queue (one ∷ without_ready zero queue) (λ (left : Queue). total measure left ≤ total measure (one ∷ queue)) (λ is. omega arith) (λ is. omega arith)
ready-less (suc place) (one ∷ queue) = λ measure.
    let rest = ready-less (cond (is_ready one) place (suc place)) queue measure in omega arith

filter-less : (test : Unfinished → Bool) (queue : Queue) → IsLess (filter test queue) queue
filter-less test [] = λ measure. omega arith
filter-less test (one ∷ queue) = λ measure.
    let rest = filter-less test queue measure in
    cond_both (test one) (one ∷ filter test queue) (filter test queue) (λ (left : Queue). total measure left ≤ total measure (one ∷ queue)) (λ is. omega arith) (λ is. omega arith)

less-within : (one other : Queue) → IsLess one other → AreWithinLimits other → AreWithinLimits one
less-within one other less within = λ key session.
    let limits = within key session in
    let count = limits.0 in
    let bytes = limits.1 in
    let fewer = less (λ one. one_if (is_of key session one)) in
    let lighter = less (λ one. cond (is_of key session one) (load_of one.job) 0) in
    (omega arith, omega arith)

pub first-within : (test : Unfinished → Bool) (queue : Queue) → AreWithinLimits queue → AreWithinLimits (without_first test queue)
first-within test queue within = less-within (without_first test queue) queue (first-less test queue) within

pub ready-within : (place : ℕ) (queue : Queue) → AreWithinLimits queue → AreWithinLimits (without_ready place queue)
ready-within place queue within = less-within (without_ready place queue) queue (ready-less place queue) within

pub lost-within : (key session : ℕ) (queue : Queue) → AreWithinLimits queue → AreWithinLimits (without_session key session queue)
lost-within key session queue within = less-within (without_session key session queue) queue (filter-less (λ one. not (is_of key session one)) queue) within

-- ---- jobs that are told

numbers-fewer : (test : ℕ → Bool) (numbers : List ℕ) → length (filter test numbers) ≤ length numbers
numbers-fewer test [] = omega arith
numbers-fewer test (number ∷ numbers) =
    let rest = numbers-fewer test numbers in
    cond_both (test number) (number ∷ filter test numbers) (filter test numbers) (λ (left : List ℕ). length left ≤ length (number ∷ numbers)) (λ is. omega arith) (λ is. omega arith)

-- it is of the same session, and its load is no more
abbrev Lighter : Unfinished → Unfinished → Type 0
Lighter after before = ((key session : ℕ) → is_of key session after ≡ is_of key session before) × (load_of after.job ≤ load_of before.job)

told-lighter : (number : ℕ) (ok : Bool) (one : Unfinished) → Lighter (told number ok one) one
told-lighter number true one = (λ key session. refl, let fewer = numbers-fewer (λ awaited. not (awaited == number)) one.job.after in omega arith)
told-lighter number false one = (λ key session. refl, omega arith)

answer-lighter : (key session number : ℕ) (ok : Bool) (one : Unfinished) → Lighter (after_answer key session number ok one) one
answer-lighter key session number ok one =
    cond_both (waits_for key session number one) (told number ok one) one (λ (after : Unfinished). Lighter after one)
    (λ is. told-lighter number ok one) (λ is. (λ key session. refl, omega arith))

counts-same : (of_key of_session number : ℕ) (ok : Bool) (key session : ℕ) (queue : Queue)
    → (job_count key session (settled of_key of_session number ok queue) ≡ job_count key session queue)
    × (job_bytes key session (settled of_key of_session number ok queue) ≤ job_bytes key session queue)
counts-same of_key of_session number ok key session [] = (refl, omega arith)
counts-same of_key of_session number ok key session (one ∷ queue) =
    let rest = counts-same of_key of_session number ok key session queue in
    let rest_count = rest.0 in
    let rest_bytes = rest.1 in
    let lighter = answer-lighter of_key of_session number ok one in
    let load = lighter.1 in
    let after = after_answer of_key of_session number ok one in
    let same : one_if (is_of key session after) ≡ one_if (is_of key session one) = ap one_if (lighter.0 key session) in
    let loads : cond (is_of key session after) (load_of after.job) 0 ≤ cond (is_of key session one) (load_of one.job) 0 =
    elim (cases_Bool (is_of key session one)) [
      | inl is ↦
          let before : cond (is_of key session one) (load_of one.job) 0 ≡ load_of one.job = cond-true (is_of key session one) (load_of one.job) 0 is in
          let now : cond (is_of key session after) (load_of after.job) 0 ≡ load_of after.job = cond-true (is_of key session after) (load_of after.job) 0 (lighter.0 key session ∙ is) in
          omega (arith, before, now, load)
      | inr is ↦
          let now : cond (is_of key session after) (load_of after.job) 0 ≡ 0 = cond-false (is_of key session after) (load_of after.job) 0 (lighter.0 key session ∙ is) in
          omega (arith, now)
    ] in
    (omega (arith, same, rest_count), omega (arith, loads, rest_bytes))

settled-within : (of_key of_session number : ℕ) (ok : Bool) (queue : Queue) → AreWithinLimits queue → AreWithinLimits (settled of_key of_session number ok queue)
settled-within of_key of_session number ok queue within = λ key session.
    let limits = within key session in
    let same = counts-same of_key of_session number ok key session queue in
    (omega (arith, limits.0, same.0), omega (arith, limits.1, same.1))

pub told-within : (look : Outlook) (session : Session) (number : ℕ) (queue : Queue) → AreWithinLimits queue → AreWithinLimits (told_so look session number queue)
told-within Over session number queue within = settled-within session.key session.number number true queue within
told-within InVain session number queue within = settled-within session.key session.number number false queue within
told-within GoesOn session number queue within = within

-- ---- a job that is let in

total-push : (measure : Unfinished → ℕ) (queue : Queue) (one : Unfinished) → total measure (queue ++ one ∷ []) ≡ total measure queue + measure one
total-push measure [] one = omega arith
total-push measure (first ∷ queue) one = let rest = total-push measure queue one in omega (arith, rest)

or-false : (one other : Bool) → (one || other) ≡ false → (one ≡ false) × (other ≡ false)
or-false true other is = absurd (false≢true (sym is))
or-false false other is = (refl, is)

renamed : (P : ℕ → ℕ → Type 0) (key session : ℕ) (one : Unfinished) → is_of key session one ≡ true → P one.job.key one.job.session → P key session
renamed P key session one is has =
    let parts = and_parts _ _ is in
    let Q : ℕ → Type 0 = λ k. P k one.job.session in
    let R : ℕ → Type 0 = λ s. P key s in
    subst R (eqb-true one.job.session session parts.1) (subst Q (eqb-true one.job.key key parts.0) has)

pub accepted-within : {S : Type 0} (job : Job) (speaker : Speaker S) → is_full job speaker ≡ false → AreWithinLimits speaker.jobs → AreWithinLimits (accepted job speaker.jobs)
accepted-within job speaker room within = λ key session.
    let one : Unfinished = record { job = job; failed = false } in
    let queue = speaker.jobs in
    let counted = total-push (λ one. one_if (is_of key session one)) queue one in
    let weighed = total-push (λ one. cond (is_of key session one) (load_of one.job) 0) queue one in
    let limits = within key session in
    let full = or-false (nat_le most_jobs (job_count job.key job.session queue)) _ room in
    elim (cases_Bool (is_of key session one)) [
      | inl is ↦
          let count = leb-false most_jobs (job_count job.key job.session queue) full.0 in
          let bytes = ltb-false most_job_bytes (job_bytes job.key job.session queue + load_of job) full.1 in
          let own = renamed (λ k s. (job_count k s queue + 1 ≤ most_jobs) × (job_bytes k s queue + load_of job ≤ most_job_bytes)) key session one is (omega (arith, count), omega (arith, bytes)) in
          let single : one_if (is_of key session one) ≡ 1 = cond-true (is_of key session one) 1 0 is in
          let load : cond (is_of key session one) (load_of job) 0 ≡ load_of job = cond-true (is_of key session one) (load_of job) 0 is in
          (omega (arith, counted, single, own.0), omega (arith, weighed, load, own.1))
      | inr is ↦
          let single : one_if (is_of key session one) ≡ 0 = cond-false (is_of key session one) 1 0 is in
          let load : cond (is_of key session one) (load_of job) 0 ≡ 0 = cond-false (is_of key session one) (load_of job) 0 is in
          (omega (arith, counted, single, limits.0), omega (arith, weighed, load, limits.1))
    ]
