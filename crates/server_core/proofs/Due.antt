-- How many answers a session gives in a tick, where a job that is due is taken out and answered.
use Rattle.std.proofs.Common.{◌≡◌, ◌≢◌, ◌∙◌, ℕ, ◌≤◌, ◌+◌, Bool, true, false, not, Some, List, [], ◌∷◌, ap, sym, subst, refl, arith, inl, inr}
use Rattle.std.specs.Prelude.{◌&&◌, ◌||◌, ◌==◌}
use Rattle.std.specs.List.{All, list_any}
use Rattle.std.proofs.lemmas.Bool.{cases_Bool, cond-true, cond-false, and_parts, false≢true}
use Rattle.std.proofs.lemmas.List.Elements.{All-filter, All-head, All-tail}
use Rattle.waits.specs.declared.job.Job.{Job}
use Rattle.waits.specs.declared.job.Unfinished.{Unfinished}
use Rattle.waits.specs.Jobs.{Queue, after_answer, blocked_count, blocked_count_of, first_job, has_failed, is_empty, is_overdue, is_ready, one_if, overdue_count, overdue_count_of, settled, told, waits_for, without_first}
use Rattle.server_rules.specs.Server.{Name, Session, name_of}
use Rattle.server_rules.specs.Event.{Setting, Speaker}
use Rattle.server_rules.specs.Speaking.{answers_in_place}
use Rattle.server_rules.specs.Waiting.{Outlook, Over, InVain, GoesOn, gives_up, outlook, told as told_of}
use Rattle.law_server.specs.Order.{jobs_of}
use Rattle.server_core.specs.declared.tick_turns.Cause.{Cause}
use Rattle.server_core.specs.declared.tick_turns.Cause.TheVariants.{Overdue, Failed}
use Rattle.server_core.specs.Answering.{IsDueTest, answers_left, is_due, most_answers, test_of}
use Rattle.server_core.proofs.Names.{none-some}
use Rattle.server_core.proofs.Running.{IsUnfailed}
use Rattle.server_core.proofs.Shares.{is_own, own-overdue, owner, taken-other, taken-own, told-other, told-own}

or-true : (b : Bool) → (b || true) ≡ true
or-true true = refl
or-true false = refl

not-true : (b : Bool) → not b ≡ true → b ≡ false
not-true true is = absurd (false≢true is)
not-true false is = refl

and-off : (one other : Bool) → other ≡ false → (one && other) ≡ false
and-off true other off = off
and-off false other off = refl

pub cause-due : (now : ℕ) (cause : Cause) → IsDueTest now (test_of now cause)
cause-due now Overdue = λ one is. ap (λ (b : Bool). b || has_failed one) is
cause-due now Failed = λ one is. ap (λ (b : Bool). is_overdue now one || b) is ∙ or-true (is_overdue now one)

due-blocked : (now : ℕ) (one : Unfinished) → is_due now one ≡ true → is_ready one ≡ false
due-blocked now one is =
    elim (cases_Bool one.failed) [
      | inl failed ↦ ap (λ (so : Bool). not so && is_empty one.job.after) failed
      | inr not_failed ↦
          elim (cases_Bool (is_overdue now one)) [
            | inl over ↦ and-off (not one.failed) (is_empty one.job.after) (not-true (is_empty one.job.after) (and_parts _ _ over).0)
            | inr not_over ↦ absurd (false≢true (sym not_failed ∙ (sym (ap (λ (b : Bool). b || one.failed) not_over) ∙ is)))
          ]
    ]

blocked-one : (one : Unfinished) → is_ready one ≡ false → one_if (not (is_ready one)) ≡ 1
blocked-one one off = ap (λ (b : Bool). one_if (not b)) off

taken-any : (now : ℕ) (test : Unfinished → Bool) (jobs : Queue) (job : Job) → IsDueTest now test → first_job test jobs ≡ Some job → list_any (is_due now) jobs ≡ true
taken-any now test [] job due is = absurd (none-some job is)
taken-any now test (one ∷ jobs) job due is =
    elim (cases_Bool (test one)) [
      | inl so ↦ ap (λ (b : Bool). b || list_any (is_due now) jobs) (due one so)
      | inr not_so ↦
          ap (λ (b : Bool). is_due now one || b)
          (taken-any now test jobs job due (sym (cond-false (test one) (Some one.job) (first_job test jobs) not_so) ∙ is))
          ∙ or-true (is_due now one)
    ]

taken-blocked : (now : ℕ) (test : Unfinished → Bool) (jobs : Queue) (job : Job) → IsDueTest now test → first_job test jobs ≡ Some job
    → blocked_count (without_first test jobs) + 1 ≡ blocked_count jobs
taken-blocked now test [] job due is = absurd (none-some job is)
taken-blocked now test (one ∷ jobs) job due is =
    let left = without_first test jobs in
    elim (cases_Bool (test one)) [
      | inl so ↦
          let w : blocked_count (without_first test (one ∷ jobs)) ≡ blocked_count jobs = ap blocked_count (cond-true (test one) jobs (one ∷ left) so) in
          let counts : one_if (not (is_ready one)) ≡ 1 = blocked-one one (due-blocked now one (due one so)) in
          omega arith
      | inr not_so ↦
          let w : blocked_count (without_first test (one ∷ jobs)) ≡ one_if (not (is_ready one)) + blocked_count left =
          ap blocked_count (cond-false (test one) jobs (one ∷ left) not_so) in
          let rest = taken-blocked now test jobs job due (sym (cond-false (test one) (Some one.job) (first_job test jobs) not_so) ∙ is) in
          omega arith
    ]

-- ---- a session is told that a call was answered

not-empty : (test : ℕ → Bool) (numbers : List ℕ) → list_any test numbers ≡ true → is_empty numbers ≡ false
not-empty test [] some = absurd (false≢true some)
not-empty test (number ∷ numbers) some = refl

at_most-one : (so : Bool) → one_if so ≤ 1
at_most-one true = omega arith
at_most-one false = omega arith

one-settled : (key session number : ℕ) (ok : Bool) (one : Unfinished)
    → one_if (not (is_ready (after_answer key session number ok one))) ≤ one_if (not (is_ready one))
one-settled key session number ok one =
    let waits = waits_for key session number one in
    elim (cases_Bool waits) [
      | inl does ↦
          let some = not-empty (λ awaited. awaited == number) one.job.after (and_parts _ _ does).1 in
          let was : one_if (not (is_ready one)) ≡ 1 = blocked-one one (and-off (not one.failed) (is_empty one.job.after) some) in
          let most = at_most-one (not (is_ready (after_answer key session number ok one))) in
          omega arith
      | inr not_so ↦
          let same : after_answer key session number ok one ≡ one = cond-false waits (told number ok one) one not_so in
          let is : one_if (not (is_ready (after_answer key session number ok one))) ≡ one_if (not (is_ready one)) =
          ap (λ (one : Unfinished). one_if (not (is_ready one))) same in
          omega arith
    ]

settled-blocked : (key session number : ℕ) (ok : Bool) (jobs : Queue) → blocked_count (settled key session number ok jobs) ≤ blocked_count jobs
settled-blocked key session number ok [] = omega arith
settled-blocked key session number ok (one ∷ jobs) =
    let first = one-settled key session number ok one in
    let rest = settled-blocked key session number ok jobs in
    omega arith

told-blocked : (session : Session) (far : Outlook) (number : ℕ) (jobs : Queue) → blocked_count (told_of far session number jobs) ≤ blocked_count jobs
told-blocked session Over number jobs = settled-blocked session.key session.number number true jobs
told-blocked session InVain number jobs = settled-blocked session.key session.number number false jobs
told-blocked session GoesOn number jobs = omega arith

most-blocked : (now : ℕ) (jobs : Queue) → most_answers now jobs ≤ blocked_count jobs
most-blocked now jobs =
    elim (cases_Bool (list_any (is_due now) jobs)) [
      | inl some ↦ let is : most_answers now jobs ≡ blocked_count jobs = cond-true (list_any (is_due now) jobs) (blocked_count jobs) 0 some in omega arith
      | inr none ↦ let is : most_answers now jobs ≡ 0 = cond-false (list_any (is_due now) jobs) (blocked_count jobs) 0 none in omega arith
    ]

most-less : (now : ℕ) (test : Unfinished → Bool) (session : Session) (far : Outlook) (number : ℕ) (jobs : Queue) (job : Job) → IsDueTest now test
    → first_job test jobs ≡ Some job → most_answers now (told_of far session number (without_first test jobs)) + 1 ≤ most_answers now jobs
most-less now test session far number jobs job due is =
    let before : most_answers now jobs ≡ blocked_count jobs =
    cond-true (list_any (is_due now) jobs) (blocked_count jobs) 0 (taken-any now test jobs job due is) in
    let out = taken-blocked now test jobs job due is in
    let left = told-blocked session far number (without_first test jobs) in
    let after = most-blocked now (told_of far session number (without_first test jobs)) in
    omega arith

-- ---- a session gives a job up

pub own-left : {S : Type 0} (setting : Setting S) (content : List ℕ) (now : ℕ) (test : Unfinished → Bool) (job : Job) (speaker : Speaker S) → IsDueTest now test
    → first_job test speaker.jobs ≡ Some job → owner job ≡ name_of speaker.session
    → answers_left now (gives_up setting content job (record speaker { jobs = without_first test speaker.jobs })).jobs (name_of speaker.session) + 1
    ≤ answers_left now speaker.jobs (name_of speaker.session)
own-left {S} setting content now test job speaker due is own =
    let name = name_of speaker.session in
    let rest : Speaker S = record speaker { jobs = without_first test speaker.jobs } in
    let answered : Speaker S = answers_in_place setting job.number job.request content rest in
    let far = outlook answered.session answered.jobs job.number in
    let after : Speaker S = gives_up setting content job rest in
    let taken = taken-own test name job speaker.jobs is own in
    let same : jobs_of name after.jobs ≡ told_of far answered.session job.number (without_first test (jobs_of name speaker.jobs)) =
    told-own name answered.session far job.number rest.jobs ∙ ap (told_of far answered.session job.number) taken.left in
    let less = most-less now test answered.session far job.number (jobs_of name speaker.jobs) job due taken.found in
    subst (λ (own : Queue). most_answers now own + 1 ≤ most_answers now (jobs_of name speaker.jobs)) (sym same) less

pub other-left : {S : Type 0} (setting : Setting S) (content : List ℕ) (now : ℕ) (test : Unfinished → Bool) (job : Job) (name : Name) (speaker : Speaker S)
    → first_job test speaker.jobs ≡ Some job → owner job ≡ name_of speaker.session → name ≢ name_of speaker.session
    → answers_left now (gives_up setting content job (record speaker { jobs = without_first test speaker.jobs })).jobs name ≡ answers_left now speaker.jobs name
other-left {S} setting content now test job name speaker is own apart =
    let rest : Speaker S = record speaker { jobs = without_first test speaker.jobs } in
    let answered : Speaker S = answers_in_place setting job.number job.request content rest in
    let far = outlook answered.session answered.jobs job.number in
    let after : Speaker S = gives_up setting content job rest in
    let same : jobs_of name after.jobs ≡ jobs_of name speaker.jobs =
    told-other name answered.session far job.number rest.jobs apart ∙ taken-other test name job speaker.jobs is (λ (its : owner job ≡ name). apart (sym its ∙ own)) in
    ap (most_answers now) same

-- a session that is to answer a job has an answer left
pub some-left : (now : ℕ) (test : Unfinished → Bool) (job : Job) (jobs : Queue) → IsDueTest now test → first_job test jobs ≡ Some job
    → 1 ≤ answers_left now jobs (owner job)
some-left now test job jobs due is =
    let name = owner job in
    let own = jobs_of name jobs in
    let taken = taken-own test name job jobs is refl in
    let before : most_answers now own ≡ blocked_count own = cond-true (list_any (is_due now) own) (blocked_count own) 0 (taken-any now test own job due taken.found) in
    let out = taken-blocked now test own job due taken.found in
    omega arith

-- ---- how many answers a session gives at most, by its counts

none-more : (n : ℕ) → n ≡ 0 + n
none-more n = omega arith

own-blocked : (name : Name) (jobs : Queue) → blocked_count (jobs_of name jobs) ≡ blocked_count_of name.key name.session jobs
own-blocked name [] = refl
own-blocked name (one ∷ jobs) =
    let rest = own-blocked name jobs in
    let own = jobs_of name jobs in
    elim (cases_Bool (is_own name one)) [
      | inl mine ↦
          ap blocked_count (cond-true (is_own name one) (one ∷ own) own mine)
          ∙ (ap (λ (n : ℕ). one_if (not (is_ready one)) + n) rest
          ∙ ap (λ (b : Bool). one_if (b && not (is_ready one)) + blocked_count_of name.key name.session jobs) (sym mine))
      | inr off ↦
          ap blocked_count (cond-false (is_own name one) (one ∷ own) own off)
          ∙ (rest
          ∙ (none-more (blocked_count_of name.key name.session jobs)
          ∙ ap (λ (b : Bool). one_if (b && not (is_ready one)) + blocked_count_of name.key name.session jobs) (sym off)))
    ]

or-none : (one other : Bool) → one ≡ false → other ≡ false → (one || other) ≡ false
or-none one other is also = ap (λ (b : Bool). b || other) is ∙ also

none-due : (now : ℕ) (jobs : Queue) → All IsUnfailed jobs → overdue_count now jobs ≡ 0 → list_any (is_due now) jobs ≡ false
none-due now [] unfailed none = refl
none-due now (one ∷ jobs) unfailed none =
    elim (cases_Bool (is_overdue now one)) [
      | inl over ↦ (let here : one_if (is_overdue now one) ≡ 1 = ap one_if over in absurd (omega arith))
      | inr not_over ↦
          (let here : one_if (is_overdue now one) ≡ 0 = ap one_if not_over in
          or-none (is_due now one) (list_any (is_due now) jobs)
          (or-none (is_overdue now one) (has_failed one) not_over (All-head IsUnfailed one jobs unfailed))
          (none-due now jobs (All-tail IsUnfailed one jobs unfailed) (omega arith)))
    ]

pub none-left : (now : ℕ) (jobs : Queue) (name : Name) → All IsUnfailed jobs → overdue_count_of name.key name.session now jobs ≡ 0 → answers_left now jobs name ≡ 0
none-left now jobs name unfailed none =
    let own = jobs_of name jobs in
    cond-false (list_any (is_due now) own) (blocked_count own) 0
    (none-due now own (All-filter (is_own name) IsUnfailed jobs unfailed) (own-overdue name now jobs ∙ none))

pub few-left : (now : ℕ) (jobs : Queue) (name : Name) → answers_left now jobs name ≤ blocked_count_of name.key name.session jobs
few-left now jobs name =
    let most = most-blocked now (jobs_of name jobs) in
    let counts = own-blocked name jobs in
    omega arith
