-- How many jobs of a session aren't ready, where one that has failed is taken out and answered.
use Rattle.std.proofs.Common.{◌≡◌, ◌∙◌, ℕ, zero, suc, ◌+◌, ◌≤◌, Bool, true, false, ◌&&◌, ◌==◌, not, Option, Some, None, List, [], ◌∷◌, length, ap, sym, refl, arith, inl, inr}
use Rattle.std.specs.List.{list_any}
use Rattle.std.proofs.lemmas.Bool.{cases_Bool, cond-true, cond-false, and_parts, and_from, false≢true}
use Rattle.std.proofs.lemmas.List.Elements.{All-head, All-tail}
use Rattle.waits.specs.declared.job.Job.{Job}
use Rattle.waits.specs.declared.job.Unfinished.{Unfinished}
use Rattle.waits.specs.Jobs.{Queue, after_answer, first_job, has_failed, is_empty, is_of, is_ready, one_if, settled, told, waits_for, without_first}
use Rattle.server_rules.specs.Server.{Name, Session, name_of}
use Rattle.server_rules.specs.Event.{Setting, Speaker}
use Rattle.server_rules.specs.Speaking.{answers_in_place, msg_wait_failed}
use Rattle.server_rules.specs.Waiting.{Outlook, Over, InVain, GoesOn, outlook, told as told_of}
use Rattle.server_core.specs.One.{AreOwnFailures, fails_all, fails_first, given_up_by}
use Rattle.server_core.specs.Failures.{blocked_of, is_blocked}
use Rattle.server_core.proofs.Names.{none-some}

pub one-at_most : (so : Bool) → one_if so ≤ 1
one-at_most true = omega arith
one-at_most false = omega arith

not-empty : (test : ℕ → Bool) (numbers : List ℕ) → list_any test numbers ≡ true → is_empty numbers ≡ false
not-empty test [] some = absurd (false≢true some)
not-empty test (number ∷ numbers) some = refl

and-false : (one : Bool) → (one && false) ≡ false
and-false true = refl
and-false false = refl

and-no : (one other : Bool) → other ≡ false → (one && other) ≡ false
and-no one other off = ap (λ (so : Bool). one && so) off ∙ and-false one

waits-blocked : (name : Name) (number : ℕ) (one : Unfinished) → waits_for name.key name.session number one ≡ true → is_blocked name one ≡ true
waits-blocked name number one waits =
    let parts = and_parts _ _ waits in
    let some : is_empty one.job.after ≡ false = not-empty (λ awaited. awaited == number) one.job.after parts.1 in
    let not_ready : is_ready one ≡ false = and-no (not one.failed) (is_empty one.job.after) some in
    and_from (is_of name.key name.session one) (not (is_ready one)) parts.0 (ap not not_ready)

failed-blocked : (name : Name) (one : Unfinished) → one.failed ≡ true → is_of name.key name.session one ≡ true → is_blocked name one ≡ true
failed-blocked name one failed is =
    let not_ready : is_ready one ≡ false = ap (λ (so : Bool). not so && is_empty one.job.after) failed in
    and_from (is_of name.key name.session one) (not (is_ready one)) is (ap not not_ready)

one-settled : (name : Name) (number : ℕ) (ok : Bool) (one : Unfinished)
    → one_if (is_blocked name (after_answer name.key name.session number ok one)) ≤ one_if (is_blocked name one)
one-settled name number ok one =
    let waits = waits_for name.key name.session number one in
    elim (cases_Bool waits) [
      | inl does ↦
          let was : one_if (is_blocked name one) ≡ 1 = ap one_if (waits-blocked name number one does) in
          let most = one-at_most (is_blocked name (after_answer name.key name.session number ok one)) in
          omega arith
      | inr not_so ↦
          let same : after_answer name.key name.session number ok one ≡ one = cond-false waits (told number ok one) one not_so in
          let is : one_if (is_blocked name (after_answer name.key name.session number ok one)) ≡ one_if (is_blocked name one) =
          ap (λ (one : Unfinished). one_if (is_blocked name one)) same in
          omega arith
    ]

settled-blocked : (name : Name) (number : ℕ) (ok : Bool) (jobs : Queue) → blocked_of name (settled name.key name.session number ok jobs) ≤ blocked_of name jobs
settled-blocked name number ok [] = omega arith
settled-blocked name number ok (one ∷ jobs) =
    let first = one-settled name number ok one in
    let rest = settled-blocked name number ok jobs in
    omega arith

pub told-blocked : (session : Session) (outlook : Outlook) (number : ℕ) (jobs : Queue)
    → blocked_of (name_of session) (told_of outlook session number jobs) ≤ blocked_of (name_of session) jobs
told-blocked session Over number jobs = settled-blocked (name_of session) number true jobs
told-blocked session InVain number jobs = settled-blocked (name_of session) number false jobs
told-blocked session GoesOn number jobs = omega arith

pub given-blocked : {S : Type 0} (setting : Setting S) (job : Job) (speaker : Speaker S)
    → blocked_of (name_of speaker.session) (given_up_by setting (Some job) speaker).jobs ≤ blocked_of (name_of speaker.session) speaker.jobs
given-blocked {S} setting job speaker =
    let answered : Speaker S = answers_in_place setting job.number job.request msg_wait_failed speaker in
    told-blocked answered.session (outlook answered.session answered.jobs job.number) job.number answered.jobs

settled-length : (key session number : ℕ) (ok : Bool) (jobs : Queue) → length (settled key session number ok jobs) ≡ length jobs
settled-length key session number ok [] = refl
settled-length key session number ok (one ∷ jobs) = let rest = settled-length key session number ok jobs in omega arith

told-length : (session : Session) (outlook : Outlook) (number : ℕ) (jobs : Queue) → length (told_of outlook session number jobs) ≡ length jobs
told-length session Over number jobs = settled-length session.key session.number number true jobs
told-length session InVain number jobs = settled-length session.key session.number number false jobs
told-length session GoesOn number jobs = refl

pub given-length : {S : Type 0} (setting : Setting S) (job : Job) (speaker : Speaker S)
    → length (given_up_by setting (Some job) speaker).jobs ≡ length speaker.jobs
given-length {S} setting job speaker =
    let answered : Speaker S = answers_in_place setting job.number job.request msg_wait_failed speaker in
    told-length answered.session (outlook answered.session answered.jobs job.number) job.number answered.jobs

-- ---- one that has failed is taken out

pub taken-blocked : (name : Name) (jobs : Queue) (job : Job) → AreOwnFailures name jobs → first_job has_failed jobs ≡ Some job
    → blocked_of name (without_first has_failed jobs) + 1 ≡ blocked_of name jobs
taken-blocked name [] job own is = absurd (none-some job is)
taken-blocked name (one ∷ jobs) job own is =
    let P : Unfinished → Type 0 = λ one. one.failed ≡ true → is_of name.key name.session one ≡ true in
    let left = without_first has_failed jobs in
    elim (cases_Bool one.failed) [
      | inl failed ↦
          let w : blocked_of name (without_first has_failed (one ∷ jobs)) ≡ blocked_of name jobs = ap (blocked_of name) (cond-true one.failed jobs (one ∷ left) failed) in
          let counts : one_if (is_blocked name one) ≡ 1 = ap one_if (failed-blocked name one failed (All-head P one jobs own failed)) in
          omega arith
      | inr not_so ↦
          let w : blocked_of name (without_first has_failed (one ∷ jobs)) ≡ one_if (is_blocked name one) + blocked_of name left =
          ap (blocked_of name) (cond-false one.failed jobs (one ∷ left) not_so) in
          let rest = taken-blocked name jobs job (All-tail P one jobs own) (sym (cond-false one.failed (Some one.job) (first_job has_failed jobs) not_so) ∙ is) in
          omega arith
    ]

pub taken-length : (jobs : Queue) (job : Job) → first_job has_failed jobs ≡ Some job → length (without_first has_failed jobs) + 1 ≡ length jobs
taken-length [] job is = absurd (none-some job is)
taken-length (one ∷ jobs) job is =
    let left = without_first has_failed jobs in
    elim (cases_Bool one.failed) [
      | inl failed ↦
          let w : length (without_first has_failed (one ∷ jobs)) ≡ length jobs = ap (λ (jobs : Queue). length jobs) (cond-true one.failed jobs (one ∷ left) failed) in
          omega arith
      | inr not_so ↦
          let w : length (without_first has_failed (one ∷ jobs)) ≡ length (one ∷ left) = ap (λ (jobs : Queue). length jobs) (cond-false one.failed jobs (one ∷ left) not_so) in
          let rest = taken-length jobs job (sym (cond-false one.failed (Some one.job) (first_job has_failed jobs) not_so) ∙ is) in
          omega arith
    ]

-- ---- none has failed

pub none-taken : (jobs : Queue) → first_job has_failed jobs ≡ None → without_first has_failed jobs ≡ jobs
none-taken [] none = refl
none-taken (one ∷ jobs) none =
    let left = without_first has_failed jobs in
    elim (cases_Bool one.failed) [
      | inl failed ↦ absurd (none-some one.job (sym none ∙ cond-true one.failed (Some one.job) (first_job has_failed jobs) failed))
      | inr not_so ↦
          cond-false one.failed jobs (one ∷ left) not_so
          ∙ ap (λ (jobs : Queue). one ∷ jobs) (none-taken jobs (sym (cond-false one.failed (Some one.job) (first_job has_failed jobs) not_so) ∙ none))
    ]

pub none-blocked : (name : Name) (jobs : Queue) → AreOwnFailures name jobs → blocked_of name jobs ≤ 0 → first_job has_failed jobs ≡ None
none-blocked name [] own none = refl
none-blocked name (one ∷ jobs) own none =
    let P : Unfinished → Type 0 = λ one. one.failed ≡ true → is_of name.key name.session one ≡ true in
    elim (cases_Bool one.failed) [
      | inl failed ↦
          let counts : one_if (is_blocked name one) ≡ 1 = ap one_if (failed-blocked name one failed (All-head P one jobs own failed)) in
          absurd (omega arith)
      | inr not_so ↦
          cond-false one.failed (Some one.job) (first_job has_failed jobs) not_so ∙ none-blocked name jobs (All-tail P one jobs own) (omega arith)
    ]

pub none-fails : {S : Type 0} (setting : Setting S) (n : ℕ) (speaker : Speaker S) → first_job has_failed speaker.jobs ≡ None → fails_all setting n speaker ≡ speaker
none-fails setting zero speaker none = refl
none-fails {S} setting (suc n) speaker none =
    let first : fails_first setting speaker ≡ speaker =
    ap (λ (found : Option Job). given_up_by setting found (record speaker { jobs = without_first has_failed speaker.jobs })) none
    ∙ ap (λ (jobs : Queue). record speaker { jobs = jobs }) (none-taken speaker.jobs none) in
    ap (fails_all setting n) first ∙ none-fails setting n speaker none
