-- How many jobs, entries and accepted messages of a session pass a test on number and request.
use Rattle.std.proofs.Common.{◌≡◌, ◌≢◌, ◌∙◌, ℕ, zero, suc, ◌+◌, ◌≤◌, Bool, true, false, cond, Option, Some, None, List, [], ◌∷◌, ◌++◌, length, ap, sym, refl, arith, inl, inr}
use Rattle.std.specs.Prelude.{map, ◌&&◌, ◌==◌}
use Rattle.std.specs.List.{filter, All}
use Rattle.std.proofs.lemmas.Bool.{cases_Bool, cond_both, and_parts, and_from, eqb-true, eq-eqb}
use Rattle.std.proofs.lemmas.List.Elements.{All-head, All-tail}
use Rattle.waits.specs.declared.job.Job.{Job}
use Rattle.waits.specs.declared.job.Unfinished.{Unfinished}
use Rattle.waits.specs.Jobs.{Queue, is_of, is_ready, one_if, waits_for, told, after_answer, settled, first_job, without_first, ready_job, without_ready, without_session}
use Rattle.server_rules.specs.Server.{Name, Session}
use Rattle.server_rules.specs.Event.{Entry}
use Rattle.server_rules.specs.Waiting.{Outlook, Over, InVain, GoesOn, told as told_so}
use Rattle.law_server.specs.Lives.{Acceptance, request_of}
use Rattle.law_server.proofs.LivedNames.{name-by}

-- ---- counts

abbrev pub count : {X : Type 0} → (X → Bool) → List X → ℕ
count test [] = 0
count test (x ∷ xs) = one_if (test x) + count test xs

pub count-append : {X : Type 0} (test : X → Bool) (xs ys : List X) → count test (xs ++ ys) ≡ count test xs + count test ys
count-append test [] ys = omega arith
count-append test (x ∷ xs) ys = let rest = count-append test xs ys in omega arith

pub count-length : {X : Type 0} (test : X → Bool) (xs : List X) → length (filter test xs) ≡ count test xs
count-length test [] = refl
count-length test (x ∷ xs) =
    let rest = count-length test xs in
    elim (cases_Bool (test x)) [ inl is ↦ rw is (omega arith) | inr fails ↦ rw fails (omega arith) ]

pub count-map : {X : Type 0} (test : X → Bool) (f : X → X) (xs : List X) → ((x : X) → test (f x) ≡ test x) → count test (map f xs) ≡ count test xs
count-map test f [] same = refl
count-map test f (x ∷ xs) same =
    let first : one_if (test (f x)) ≡ one_if (test x) = ap one_if (same x) in
    let rest = count-map test f xs same in omega arith

pub count-more : {X : Type 0} (test other : X → Bool) (xs : List X) → ((x : X) → test x ≡ true → other x ≡ true) → count test xs ≤ count other xs
count-more test other [] more = omega arith
count-more test other (x ∷ xs) more =
    let rest = count-more test other xs more in
    elim (cases_Bool (test x)) [
      | inl is ↦ let also = more x is in rw (is, also) (omega arith)
      | inr fails ↦ rw fails (omega arith)
    ]

-- ---- tests

-- a test of a number and what it asks
abbrev pub Test : Type 0
Test = ℕ → List ℕ → Bool

abbrev pub any : Test
any number request = true

abbrev pub is_by : Name → ℕ → ℕ → Bool
is_by name key session = (key == name.key) && (session == name.session)

abbrev pub job_passes : Name → Test → Job → Bool
job_passes name test job = is_by name job.key job.session && test job.number job.request

abbrev pub jobs_at : Name → Test → Queue → ℕ
jobs_at name test jobs = count (λ one. job_passes name test one.job) jobs

abbrev pub entry_passes : Name → Test → Entry → Bool
entry_passes name test entry = is_by name entry.key entry.session && test entry.number entry.request

abbrev pub entries_at : Name → Test → List Entry → ℕ
entries_at name test entries = count (entry_passes name test) entries

abbrev pub asks : Test → ℕ → Option (List ℕ) → Bool
asks test number None = false
asks test number (Some request) = test number request

abbrev pub asked_at : Test → List Acceptance → ℕ
asked_at test accepted = count (λ one. asks test one.number (request_of one.item one.body)) accepted

pub by-name : (name : Name) (key session : ℕ) → is_by name key session ≡ true → name ≡ record { key = key; session = session }
by-name name key session is =
    let parts = and_parts _ _ is in
    name-by name (record { key = key; session = session }) (sym (eqb-true key name.key parts.0)) (sym (eqb-true session name.session parts.1))

pub by-own : (key session : ℕ) → is_by (record { key = key; session = session }) key session ≡ true
by-own key session = and_from _ _ (eq-eqb key key refl) (eq-eqb session session refl)

pub by-other : (name : Name) (key session : ℕ) → name ≢ record { key = key; session = session } → is_by name key session ≡ false
by-other name key session apart =
    elim (cases_Bool (is_by name key session)) [ inl is ↦ absurd (apart (by-name name key session is)) | inr fails ↦ fails ]

-- ---- jobs that are told of an answer

told-passes : (name : Name) (test : Test) (number : ℕ) (ok : Bool) (one : Unfinished) → job_passes name test (told number ok one).job ≡ job_passes name test one.job
told-passes name test number true one = refl
told-passes name test number false one = refl

after-passes : (name : Name) (test : Test) (key session number : ℕ) (ok : Bool) (one : Unfinished)
    → job_passes name test (after_answer key session number ok one).job ≡ job_passes name test one.job
after-passes name test key session number ok one =
    cond_both (waits_for key session number one) (told number ok one) one (λ (other : Unfinished). job_passes name test other.job ≡ job_passes name test one.job)
    (λ is. told-passes name test number ok one) (λ is. refl)

settled-at : (name : Name) (test : Test) (key session number : ℕ) (ok : Bool) (jobs : Queue) → jobs_at name test (settled key session number ok jobs) ≡ jobs_at name test jobs
settled-at name test key session number ok jobs =
    count-map (λ one. job_passes name test one.job) (after_answer key session number ok) jobs (after-passes name test key session number ok)

pub told-at : (name : Name) (test : Test) (look : Outlook) (session : Session) (number : ℕ) (jobs : Queue)
    → jobs_at name test (told_so look session number jobs) ≡ jobs_at name test jobs
told-at name test Over session number jobs = settled-at name test session.key session.number number true jobs
told-at name test InVain session number jobs = settled-at name test session.key session.number number false jobs
told-at name test GoesOn session number jobs = refl

-- ---- a job that is taken out

abbrev pub found_at : Name → Test → Option Job → ℕ
found_at name test None = 0
found_at name test (Some job) = one_if (job_passes name test job)

pub first-at : (name : Name) (test : Test) (take : Unfinished → Bool) (jobs : Queue)
    → jobs_at name test jobs ≡ jobs_at name test (without_first take jobs) + found_at name test (first_job take jobs)
first-at name test take [] = omega arith
first-at name test take (one ∷ jobs) =
    let rest = first-at name test take jobs in
    elim (cases_Bool (take one)) [ inl is ↦ rw is (omega arith) | inr fails ↦ rw fails (omega arith) ]

pub ready-at : (name : Name) (test : Test) (place : ℕ) (jobs : Queue)
    → jobs_at name test jobs ≡ jobs_at name test (without_ready place jobs) + found_at name test (ready_job place jobs)
ready-at name test place [] = omega arith
ready-at name test zero (one ∷ jobs) =
    let rest = ready-at name test 0 jobs in
    elim (cases_Bool (is_ready one)) [ inl is ↦ rw is (omega arith) | inr fails ↦ rw fails (omega arith) ]
ready-at name test (suc place) (one ∷ jobs) =
    let rest = ready-at name test (cond (is_ready one) place (suc place)) jobs in omega arith

-- ---- the jobs of a session that is lost

pub lost-own : (name : Name) (test : Test) (jobs : Queue) → jobs_at name test (without_session name.key name.session jobs) ≡ 0
lost-own name test [] = refl
lost-own name test (one ∷ jobs) =
    let rest = lost-own name test jobs in
    elim (cases_Bool (is_of name.key name.session one)) [
      | inl is ↦ rw is rest
      | inr fails ↦ rw (fails, fails) (omega arith)
    ]

pub lost-others : (name other : Name) (test : Test) (jobs : Queue) → other ≢ name → jobs_at other test (without_session name.key name.session jobs) ≡ jobs_at other test jobs
lost-others name other test [] apart = refl
lost-others name other test (one ∷ jobs) apart =
    let rest = lost-others name other test jobs apart in
    elim (cases_Bool (is_of name.key name.session one)) [
      | inl is ↦
          let own : name ≡ record { key = one.job.key; session = one.job.session } = by-name name one.job.key one.job.session is in
          let off : is_by other one.job.key one.job.session ≡ false = by-other other one.job.key one.job.session (λ same. apart (same ∙ sym own)) in
          rw is (rw off (omega arith))
      | inr fails ↦ rw fails (omega arith)
    ]

-- the entries of one session are none of another's
pub own-entries : (name other : Name) (test : Test) (entries : List Entry) → other ≢ name
    → All (λ entry. (entry.key ≡ name.key) × (entry.session ≡ name.session)) entries → entries_at other test entries ≡ 0
own-entries name other test [] apart all = refl
own-entries name other test (entry ∷ entries) apart all =
    let P : Entry → Type 0 = λ entry. (entry.key ≡ name.key) × (entry.session ≡ name.session) in
    let own = All-head P entry entries all in
    let off : is_by other entry.key entry.session ≡ false =
    by-other other entry.key entry.session (λ same. apart (same ∙ name-by (record { key = entry.key; session = entry.session }) name own.0 own.1)) in
    let rest = own-entries name other test entries apart (All-tail P entry entries all) in rw off (omega arith)
