-- What a tick makes of one session is what it makes of that session alone.
use Rattle.std.proofs.Common.{◌≡◌, ◌≢◌, ◌∙◌, ℕ, zero, suc, ◌≤◌, ◌+◌, Bool, true, false, cond, Option, Some, None, List, [], ◌∷◌, ◌++◌, length, map, ap, sym, subst, refl, arith, inl, inr}
use Rattle.std.specs.Prelude.{◌&&◌, ◌||◌, ◌==◌, nat_le}
use Rattle.std.specs.List.{All, filter, find, list_any}
use Rattle.std.proofs.lemmas.Bool.{cases_Bool, cond_both, cond-true, cond-false, false≢true}
use Rattle.std.proofs.lemmas.List.{append-nil, length-map}
use Rattle.std.proofs.lemmas.List.Elements.{All-filter, filter-append}
use Rattle.waits.specs.declared.job.Job.{Job}
use Rattle.waits.specs.declared.job.Unfinished.{Unfinished}
use Rattle.waits.specs.Jobs.{Queue, after_answer, first_job, has_failed, is_call, is_of, is_overdue, one_if, overdue_count, overdue_count_of, told, waits_for, without_first}
use Rattle.id_window.specs.History.{floor}
use Rattle.server_rules.specs.Server.{Name, Session, is_named, is_same, mark_in, name_of, session_named, with_session}
use Rattle.server_rules.specs.Event.{Entry, Owed, Setting, Speaker, State, speaker_in, spoken, spoken_by}
use Rattle.server_rules.specs.Speaking.{answers_in_place, msg_wait_failed, msg_wait_timeout}
use Rattle.server_rules.specs.Waiting.{Outlook, Over, InVain, GoesOn, after_failures, after_timeouts, all_given_up, first_given_up, given_up, gives_up, outlook, outlook_by, told as told_of}
use Rattle.server_rules.specs.Answer.{ticks}
use Rattle.law_server.specs.Order.{jobs_of}
use Rattle.law_server.specs.Lives.{is_entry_of}
use Rattle.server_core.specs.Ticking.{is_owed_by, only}
use Rattle.server_core.proofs.Names.{apart-names, find-first, find-other, found-named, named, names-same, none-some, same-names, some-same}
use Rattle.server_core.proofs.Quiet.{HasNone, first_so, none-given, none-out, ticks-none}
use Rattle.server_core.proofs.Running.{IsUnfailed}

-- ---- lists

filter-map_same : {X : Type 0} (test : X → Bool) (f : X → X) → ((x : X) → test (f x) ≡ test x) → (xs : List X) → filter test (map f xs) ≡ map f (filter test xs)
filter-map_same test f same [] = refl
filter-map_same {X} test f same (x ∷ xs) =
    let rest = filter-map_same test f same xs in
    let left = filter test (map f xs) in
    elim (cases_Bool (test x)) [
      | inl is ↦
          cond-true (test (f x)) (f x ∷ left) left (same x ∙ is)
          ∙ (ap (λ (ys : List X). f x ∷ ys) rest ∙ ap (map f) (sym (cond-true (test x) (x ∷ filter test xs) (filter test xs) is)))
      | inr not_so ↦
          cond-false (test (f x)) (f x ∷ left) left (same x ∙ not_so)
          ∙ (rest ∙ ap (map f) (sym (cond-false (test x) (x ∷ filter test xs) (filter test xs) not_so)))
    ]

filter-map_off : {X : Type 0} (test : X → Bool) (f : X → X) → ((x : X) → test (f x) ≡ test x) → ((x : X) → test x ≡ true → f x ≡ x)
    → (xs : List X) → filter test (map f xs) ≡ filter test xs
filter-map_off test f same stays [] = refl
filter-map_off {X} test f same stays (x ∷ xs) =
    let rest = filter-map_off test f same stays xs in
    let left = filter test (map f xs) in
    elim (cases_Bool (test x)) [
      | inl is ↦
          cond-true (test (f x)) (f x ∷ left) left (same x ∙ is)
          ∙ (ap (λ (y : X). y ∷ left) (stays x is)
          ∙ (ap (λ (ys : List X). x ∷ ys) rest ∙ sym (cond-true (test x) (x ∷ filter test xs) (filter test xs) is)))
      | inr not_so ↦
          cond-false (test (f x)) (f x ∷ left) left (same x ∙ not_so)
          ∙ (rest ∙ sym (cond-false (test x) (x ∷ filter test xs) (filter test xs) not_so))
    ]

pub find-only : {X : Type 0} (test : X → Bool) (xs : List X) → find test (filter test xs) ≡ find test xs
find-only test [] = refl
find-only test (x ∷ xs) =
    elim (cases_Bool (test x)) [
      | inl is ↦
          ap (find test) (cond-true (test x) (x ∷ filter test xs) (filter test xs) is)
          ∙ (find-first test x (filter test xs) is ∙ sym (find-first test x xs is))
      | inr not_so ↦
          ap (find test) (cond-false (test x) (x ∷ filter test xs) (filter test xs) not_so)
          ∙ (find-only test xs ∙ sym (find-other test x xs not_so))
    ]

pub filter-push : {X : Type 0} (test : X → Bool) (xs : List X) (x : X) → test x ≡ true → filter test (xs ++ x ∷ []) ≡ filter test xs ++ x ∷ []
filter-push {X} test xs x is =
    filter-append test xs (x ∷ []) ∙ ap (λ (ys : List X). filter test xs ++ ys) (cond-true (test x) (x ∷ []) [] is)

pub filter-push_off : {X : Type 0} (test : X → Bool) (xs : List X) (x : X) → test x ≡ false → filter test (xs ++ x ∷ []) ≡ filter test xs
filter-push_off {X} test xs x not_so =
    filter-append test xs (x ∷ [])
    ∙ (ap (λ (ys : List X). filter test xs ++ ys) (cond-false (test x) (x ∷ []) [] not_so) ∙ append-nil (filter test xs))

-- ---- the job that is taken out

abbrev pub is_own : Name → Unfinished → Bool
is_own name one = is_of name.key name.session one

abbrev pub owner : Job → Name
owner job = named job.key job.session

-- it is the session's own, so it is the first of its jobs alone
pub record IsTaken (test : Unfinished → Bool) (name : Name) (job : Job) (jobs : Queue) : Type 0 where
  pub found : first_job test (jobs_of name jobs) ≡ Some job
  pub left : jobs_of name (without_first test jobs) ≡ without_first test (jobs_of name jobs)

pub taken-own : (test : Unfinished → Bool) (name : Name) (job : Job) (jobs : Queue) → first_job test jobs ≡ Some job → owner job ≡ name → IsTaken test name job jobs
taken-own test name job [] is own = absurd (none-some job is)
taken-own test name job (one ∷ jobs) is own =
    elim (cases_Bool (test one)) [
      | inl so ↦
          (let same : one.job ≡ job = some-same one.job job (sym (cond-true (test one) (Some one.job) (first_job test jobs) so) ∙ is) in
          let mine : is_own name one ≡ true = names-same (owner one.job) name (ap owner same ∙ own) in
          record { found = rw (mine, so) (ap (λ (job : Job). Some job) same); left = rw (mine, so) refl })
      | inr not_so ↦
          (let rest = taken-own test name job jobs (sym (cond-false (test one) (Some one.job) (first_job test jobs) not_so) ∙ is) own in
          elim (cases_Bool (is_own name one)) [
            | inl mine ↦ record { found = rw (mine, not_so) rest.found; left = rw (not_so, mine, not_so) (ap (λ (left : Queue). one ∷ left) rest.left) }
            | inr off ↦ record { found = rw off rest.found; left = rw (not_so, off) rest.left }
          ])
    ]

pub taken-other : (test : Unfinished → Bool) (name : Name) (job : Job) (jobs : Queue) → first_job test jobs ≡ Some job → owner job ≢ name
    → jobs_of name (without_first test jobs) ≡ jobs_of name jobs
taken-other test name job [] is apart = absurd (none-some job is)
taken-other test name job (one ∷ jobs) is apart =
    elim (cases_Bool (test one)) [
      | inl so ↦
          (let same : one.job ≡ job = some-same one.job job (sym (cond-true (test one) (Some one.job) (first_job test jobs) so) ∙ is) in
          let off : is_own name one ≡ false = apart-names (owner one.job) name (λ own. apart (sym (ap owner same) ∙ own)) in
          rw (so, off) refl)
      | inr not_so ↦
          (let rest = taken-other test name job jobs (sym (cond-false (test one) (Some one.job) (first_job test jobs) not_so) ∙ is) apart in
          elim (cases_Bool (is_own name one)) [
            | inl mine ↦ rw (not_so, mine) (ap (λ (left : Queue). one ∷ left) rest)
            | inr off ↦ rw (not_so, off) rest
          ])
    ]

none-own : (test : Unfinished → Bool) (name : Name) (jobs : Queue) → HasNone test jobs → HasNone test (jobs_of name jobs)
none-own test name [] none = refl
none-own test name (one ∷ jobs) none =
    elim (cases_Bool (test one)) [
      | inl so ↦ absurd (none-some one.job (sym none ∙ cond-true (test one) (Some one.job) (first_job test jobs) so))
      | inr not_so ↦
          (let rest = none-own test name jobs (sym (cond-false (test one) (Some one.job) (first_job test jobs) not_so) ∙ none) in
          elim (cases_Bool (is_own name one)) [
            | inl mine ↦ rw (mine, not_so) rest
            | inr off ↦ rw off rest
          ])
    ]

pub none-empty : (test : Unfinished → Bool) (jobs : Queue) → length jobs ≤ 0 → HasNone test jobs
none-empty test [] few = refl
none-empty test (one ∷ jobs) few = absurd (omega arith)

one-less : (test : Unfinished → Bool) (job : Job) (jobs : Queue) → first_job test jobs ≡ Some job → length (without_first test jobs) + 1 ≡ length jobs
one-less test job [] is = absurd (none-some job is)
one-less test job (one ∷ jobs) is =
    elim (cases_Bool (test one)) [
      | inl so ↦
          (let fewer : length (without_first test (one ∷ jobs)) ≡ length jobs = ap length (cond-true (test one) jobs (one ∷ without_first test jobs) so) in
          omega arith)
      | inr not_so ↦
          (let fewer : length (without_first test (one ∷ jobs)) ≡ length (one ∷ without_first test jobs) =
          ap length (cond-false (test one) jobs (one ∷ without_first test jobs) not_so) in
          let rest = one-less test job jobs (sym (cond-false (test one) (Some one.job) (first_job test jobs) not_so) ∙ is) in
          omega arith)
    ]

-- ---- a session is told that a call was answered

told-same : (name : Name) (number : ℕ) (ok : Bool) (one : Unfinished) → is_own name (told number ok one) ≡ is_own name one
told-same name number true one = refl
told-same name number false one = refl

answered-same : (name other : Name) (number : ℕ) (ok : Bool) (one : Unfinished)
    → is_own name (after_answer other.key other.session number ok one) ≡ is_own name one
answered-same name other number ok one =
    cond_both (waits_for other.key other.session number one) (told number ok one) one (λ (after : Unfinished). is_own name after ≡ is_own name one)
    (λ is. told-same name number ok one) (λ is. refl)

of-another : (name other : Name) (one : Unfinished) → name ≢ other → is_own name one ≡ true → is_own other one ≡ false
of-another name other one apart is =
    let mine : owner one.job ≡ name = same-names (owner one.job) name is in
    apart-names (owner one.job) other (λ its. apart (sym mine ∙ its))

answered-other : (name other : Name) (number : ℕ) (ok : Bool) → name ≢ other → (one : Unfinished) → is_own name one ≡ true
    → after_answer other.key other.session number ok one ≡ one
answered-other name other number ok apart one is =
    let off : waits_for other.key other.session number one ≡ false =
    ap (λ (own : Bool). own && list_any (λ awaited. awaited == number) one.job.after) (of-another name other one apart is) in
    cond-false (waits_for other.key other.session number one) (told number ok one) one off

pub told-own : (name : Name) (session : Session) (far : Outlook) (number : ℕ) (jobs : Queue)
    → jobs_of name (told_of far session number jobs) ≡ told_of far session number (jobs_of name jobs)
told-own name session Over number jobs =
    filter-map_same (is_own name) (after_answer session.key session.number number true) (answered-same name (name_of session) number true) jobs
told-own name session InVain number jobs =
    filter-map_same (is_own name) (after_answer session.key session.number number false) (answered-same name (name_of session) number false) jobs
told-own name session GoesOn number jobs = refl

pub told-other : (name : Name) (session : Session) (far : Outlook) (number : ℕ) (jobs : Queue) → name ≢ name_of session
    → jobs_of name (told_of far session number jobs) ≡ jobs_of name jobs
told-other name session Over number jobs apart =
    filter-map_off (is_own name) (after_answer session.key session.number number true) (answered-same name (name_of session) number true)
    (answered-other name (name_of session) number true apart) jobs
told-other name session InVain number jobs apart =
    filter-map_off (is_own name) (after_answer session.key session.number number false) (answered-same name (name_of session) number false)
    (answered-other name (name_of session) number false apart) jobs
told-other name session GoesOn number jobs apart = refl

told-length : (session : Session) (far : Outlook) (number : ℕ) (jobs : Queue) → length (told_of far session number jobs) ≡ length jobs
told-length session Over number jobs = length-map jobs (after_answer session.key session.number number true)
told-length session InVain number jobs = length-map jobs (after_answer session.key session.number number false)
told-length session GoesOn number jobs = refl

any-own : (name : Name) (number : ℕ) (jobs : Queue)
    → list_any (is_call name.key name.session number) jobs ≡ list_any (is_call name.key name.session number) (jobs_of name jobs)
any-own name number [] = refl
any-own name number (one ∷ jobs) =
    let rest = any-own name number jobs in
    let own = jobs_of name jobs in
    elim (cases_Bool (is_own name one)) [
      | inl mine ↦
          ap (λ (b : Bool). is_call name.key name.session number one || b) rest
          ∙ ap (list_any (is_call name.key name.session number)) (sym (cond-true (is_own name one) (one ∷ own) own mine))
      | inr off ↦
          ap (λ (b : Bool). (b && (one.job.number == number)) || list_any (is_call name.key name.session number) jobs) off
          ∙ (rest ∙ ap (list_any (is_call name.key name.session number)) (sym (cond-false (is_own name one) (one ∷ own) own off)))
    ]

-- ---- a session gives a job up

same-state : {S : Type 0} (state : State S) (sessions sessions' : List Session) (jobs jobs' : Queue) (owed owed' : List Owed) (entries entries' : List Entry)
    → sessions ≡ sessions' → jobs ≡ jobs' → owed ≡ owed' → entries ≡ entries'
    → record state { sessions = sessions; jobs = jobs; owed = owed; entries = entries }
    ≡ record state { sessions = sessions'; jobs = jobs'; owed = owed'; entries = entries' }
same-state {S} state sessions sessions' jobs jobs' owed owed' entries entries' one two three four =
    ap (λ (now : List Session). record state { sessions = now; jobs = jobs; owed = owed; entries = entries }) one
    ∙ (ap (λ (now : Queue). record state { sessions = sessions'; jobs = now; owed = owed; entries = entries }) two
    ∙ (ap (λ (now : List Owed). record state { sessions = sessions'; jobs = jobs'; owed = now; entries = entries }) three
    ∙ ap (λ (now : List Entry). record state { sessions = sessions'; jobs = jobs'; owed = owed'; entries = now }) four))

-- this one, where the other has its name
abbrev with_one : Session → Session → Session
with_one session other = cond (is_named (name_of session) other) session other

with-same : (name : Name) (session other : Session) → is_named name (with_one session other) ≡ is_named name other
with-same name session other =
    cond_both (is_named (name_of session) other) session other (λ (now : Session). is_named name now ≡ is_named name other)
    (λ is. ap (is_same name) (same-names (name_of session) (name_of other) is)) (λ is. refl)

with-other : (name : Name) (session : Session) → name ≢ name_of session → (other : Session) → is_named name other ≡ true → with_one session other ≡ other
with-other name session apart other is =
    let own : name ≡ name_of other = same-names name (name_of other) is in
    let off : is_named (name_of session) other ≡ false = apart-names (name_of session) (name_of other) (λ same. apart (own ∙ sym same)) in
    cond-false (is_named (name_of session) other) session other off

own-said : {S : Type 0} (setting : Setting S) (content : List ℕ) (job : Job) (rest : State S) (session : Session)
    → only (name_of session) (spoken rest (gives_up setting content job (speaker_in rest session)))
    ≡ spoken (only (name_of session) rest) (gives_up setting content job (speaker_in (only (name_of session) rest) session))
own-said {S} setting content job rest session =
    let name = name_of session in
    let speaker : Speaker S = speaker_in rest session in
    let answered : Speaker S = answers_in_place setting job.number job.request content speaker in
    let after : Speaker S = gives_up setting content job speaker in
    let alone : Speaker S = gives_up setting content job (speaker_in (only name rest) session) in
    let now = answered.session in
    let own : list_any (is_call now.key now.number job.number) rest.jobs ≡ list_any (is_call now.key now.number job.number) (jobs_of name rest.jobs) = any-own name job.number rest.jobs in
    let far : outlook now rest.jobs job.number ≡ outlook now (jobs_of name rest.jobs) job.number =
    ap (outlook_by (mark_in now job.number) (nat_le job.number (floor now.history))) own in
    let mine : is_same name name ≡ true = names-same name name refl in
    same-state (spoken rest after)
    (filter (is_named name) (with_session after.session rest.sessions)) (with_session after.session (filter (is_named name) rest.sessions))
    (jobs_of name after.jobs) alone.jobs
    (filter (is_owed_by name) after.owed) alone.owed
    (filter (is_entry_of name) after.entries) alone.entries
    (filter-map_same (is_named name) (with_one after.session) (with-same name after.session) rest.sessions)
    (told-own name now (outlook now rest.jobs job.number) job.number rest.jobs
    ∙ ap (λ (far : Outlook). told_of far now job.number (jobs_of name rest.jobs)) far)
    (filter-push (is_owed_by name) rest.owed _ mine)
    (filter-push (is_entry_of name) rest.entries _ mine)

other-said : {S : Type 0} (setting : Setting S) (content : List ℕ) (job : Job) (name : Name) (rest : State S) (session : Session) → name ≢ name_of session
    → only name (spoken rest (gives_up setting content job (speaker_in rest session))) ≡ only name rest
other-said {S} setting content job name rest session apart =
    let speaker : Speaker S = speaker_in rest session in
    let answered : Speaker S = answers_in_place setting job.number job.request content speaker in
    let after : Speaker S = gives_up setting content job speaker in
    let now = answered.session in
    let off : is_same name (name_of session) ≡ false = apart-names name (name_of session) apart in
    let off_back : is_same (name_of session) name ≡ false = apart-names (name_of session) name (λ same. apart (sym same)) in
    same-state rest
    (filter (is_named name) (with_session after.session rest.sessions)) (filter (is_named name) rest.sessions)
    (jobs_of name after.jobs) (jobs_of name rest.jobs)
    (filter (is_owed_by name) after.owed) (filter (is_owed_by name) rest.owed)
    (filter (is_entry_of name) after.entries) (filter (is_entry_of name) rest.entries)
    (filter-map_off (is_named name) (with_one after.session) (with-same name after.session) (with-other name after.session apart) rest.sessions)
    (told-other name now (outlook now rest.jobs job.number) job.number rest.jobs apart)
    (filter-push_off (is_owed_by name) rest.owed _ off)
    (filter-push_off (is_entry_of name) rest.entries _ off_back)

own-found : {S : Type 0} (setting : Setting S) (content : List ℕ) (job : Job) (rest : State S) (found : Option Session)
    → session_named (owner job) rest.sessions ≡ found
    → only (owner job) (spoken_by found (gives_up setting content job) rest) ≡ spoken_by found (gives_up setting content job) (only (owner job) rest)
own-found setting content job rest None is = refl
own-found {S} setting content job rest (Some session) is =
    let P : Name → Type 0 = λ name.
    only name (spoken rest (gives_up setting content job (speaker_in rest session)))
    ≡ spoken (only name rest) (gives_up setting content job (speaker_in (only name rest) session)) in
    subst P (found-named (owner job) rest.sessions session is) (own-said setting content job rest session)

own-given : {S : Type 0} (setting : Setting S) (content : List ℕ) (job : Job) (rest : State S)
    → only (owner job) (given_up setting content (Some job) rest) ≡ given_up setting content (Some job) (only (owner job) rest)
own-given {S} setting content job rest =
    let name = owner job in
    own-found setting content job rest (session_named name rest.sessions) refl
    ∙ ap (λ (found : Option Session). spoken_by found (gives_up setting content job) (only name rest)) (sym (find-only (is_named name) rest.sessions))

other-found : {S : Type 0} (setting : Setting S) (content : List ℕ) (job : Job) (name : Name) (rest : State S) (found : Option Session)
    → session_named (owner job) rest.sessions ≡ found → owner job ≢ name
    → only name (spoken_by found (gives_up setting content job) rest) ≡ only name rest
other-found setting content job name rest None is apart = refl
other-found setting content job name rest (Some session) is apart =
    let named = found-named (owner job) rest.sessions session is in
    other-said setting content job name rest session (λ same. apart (sym (same ∙ named)))

other-given : {S : Type 0} (setting : Setting S) (content : List ℕ) (job : Job) (name : Name) (rest : State S) → owner job ≢ name
    → only name (given_up setting content (Some job) rest) ≡ only name rest
other-given setting content job name rest apart = other-found setting content job name rest (session_named (owner job) rest.sessions) refl apart

given-length : {S : Type 0} (setting : Setting S) (content : List ℕ) (job : Job) (rest : State S) (found : Option Session)
    → length (spoken_by found (gives_up setting content job) rest).jobs ≡ length rest.jobs
given-length setting content job rest None = refl
given-length {S} setting content job rest (Some session) =
    let answered : Speaker S = answers_in_place setting job.number job.request content (speaker_in rest session) in
    told-length answered.session (outlook answered.session answered.jobs job.number) job.number rest.jobs

-- ---- one after the other

module _ {S : Type 0} (setting : Setting S) (content : List ℕ) (test : Unfinished → Bool) (name : Name) where
  abbrev goes : ℕ → State S → State S
  goes n state = all_given_up setting content (first_so test) n state

  -- what is so of so many steps
  abbrev Shares : ℕ → Type 0
  Shares n = (m : ℕ) (state : State S) → length state.jobs ≤ n → length (jobs_of name state.jobs) ≤ m → only name (goes n state) ≡ goes m (only name state)

  abbrev without : State S → State S
  without state = record state { jobs = without_first test state.jobs }

  step-none : (n m : ℕ) (state : State S) → first_job test state.jobs ≡ None → only name (goes n (without state)) ≡ goes m (only name state)
  step-none n m state none =
      ap (λ (jobs : Queue). only name (goes n (record state { jobs = jobs }))) (none-out test state.jobs none)
      ∙ (ap (only name) (none-given setting content test n state none)
      ∙ sym (none-given setting content test m (only name state) (none-own test name state.jobs none)))

  step-other : (n m : ℕ) (state : State S) (job : Job) → Shares n → first_job test state.jobs ≡ Some job → owner job ≢ name
      → length state.jobs ≤ suc n → length (jobs_of name state.jobs) ≤ m
      → only name (goes n (given_up setting content (Some job) (without state))) ≡ goes m (only name state)
  step-other n m state job shares is apart few own =
      let next : State S = given_up setting content (Some job) (without state) in
      let same : only name next ≡ only name state =
      other-given setting content job name (without state) apart
      ∙ ap (λ (jobs : Queue). record (only name state) { jobs = jobs }) (taken-other test name job state.jobs is apart) in
      let less = one-less test job state.jobs is in
      let long = given-length setting content job (without state) (session_named (owner job) state.sessions) in
      let kept : length (jobs_of name next.jobs) ≡ length (jobs_of name state.jobs) = ap (λ (state : State S). length state.jobs) same in
      shares m next (omega arith) (omega arith) ∙ ap (goes m) same

  step-own : (n m : ℕ) (state : State S) (job : Job) → Shares n → first_job test state.jobs ≡ Some job → owner job ≡ name
      → length state.jobs ≤ suc n → length (jobs_of name state.jobs) ≤ m
      → only name (goes n (given_up setting content (Some job) (without state))) ≡ goes m (only name state)
  step-own n zero state job shares is own few fits =
      let taken = taken-own test name job state.jobs is own in
      absurd (none-some job (sym (none-empty test (jobs_of name state.jobs) fits) ∙ taken.found))
  step-own n (suc m) state job shares is own few fits =
      let next : State S = given_up setting content (Some job) (without state) in
      let taken = taken-own test name job state.jobs is own in
      let left : State S = record (only name state) { jobs = without_first test (jobs_of name state.jobs) } in
      let P : Name → Type 0 = λ name. only name next ≡ given_up setting content (Some job) (only name (without state)) in
      let here : only name next ≡ given_up setting content (Some job) left =
      subst P own (own-given setting content job (without state))
      ∙ ap (λ (jobs : Queue). given_up setting content (Some job) (record (only name state) { jobs = jobs })) taken.left in
      let steps : first_given_up setting content (first_so test) (only name state) ≡ given_up setting content (Some job) left =
      ap (λ (found : Option Job). given_up setting content found left) taken.found in
      let less = one-less test job state.jobs is in
      let long = given-length setting content job (without state) (session_named (owner job) state.sessions) in
      let fewer = one-less test job (jobs_of name state.jobs) taken.found in
      let kept : length (jobs_of name next.jobs) ≡ length (given_up setting content (Some job) left).jobs = ap (λ (state : State S). length state.jobs) here in
      let same = given-length setting content job left (session_named (owner job) left.sessions) in
      shares m next (omega arith) (omega arith) ∙ ap (goes m) (here ∙ sym steps)

  step : (n m : ℕ) (state : State S) (found : Option Job) → Shares n → first_job test state.jobs ≡ found
      → length state.jobs ≤ suc n → length (jobs_of name state.jobs) ≤ m
      → only name (goes n (given_up setting content found (without state))) ≡ goes m (only name state)
  step n m state None shares is few own = step-none n m state is
  step n m state (Some job) shares is few own =
      elim (cases_Bool (is_same (owner job) name)) [
        | inl same ↦ step-own n m state job shares is (same-names (owner job) name same) few own
        | inr not_so ↦ step-other n m state job shares is (λ same. false≢true (sym not_so ∙ names-same (owner job) name same)) few own
      ]

  pub shares : (n : ℕ) → Shares n
  shares zero = λ m state few own. sym (none-given setting content test m (only name state) (none-own test name state.jobs (none-empty test state.jobs few)))
  shares (suc n) = λ m state few own. step n m state (first_job test state.jobs) (shares n) refl few own

pub ticks-alone : {S : Type 0} (setting : Setting S) (name : Name) (state : State S) → only name (ticks setting state) ≡ ticks setting (only name state)
ticks-alone {S} setting name state =
    let timed : State S = after_timeouts setting state in
    shares setting msg_wait_failed has_failed name (length timed.jobs) (length (jobs_of name timed.jobs)) timed (omega arith) (omega arith)
    ∙ ap (after_failures setting)
    (shares setting msg_wait_timeout (is_overdue setting.now) name (length state.jobs) (length (jobs_of name state.jobs)) state (omega arith) (omega arith))

-- ---- a session of which nothing is overdue

none-more : (n : ℕ) → n ≡ 0 + n
none-more n = omega arith

pub own-overdue : (name : Name) (now : ℕ) (jobs : Queue) → overdue_count now (jobs_of name jobs) ≡ overdue_count_of name.key name.session now jobs
own-overdue name now [] = refl
own-overdue name now (one ∷ jobs) =
    let rest = own-overdue name now jobs in
    let own = jobs_of name jobs in
    elim (cases_Bool (is_own name one)) [
      | inl mine ↦
          ap (overdue_count now) (cond-true (is_own name one) (one ∷ own) own mine)
          ∙ (ap (λ (n : ℕ). one_if (is_overdue now one) + n) rest
          ∙ ap (λ (b : Bool). one_if (b && is_overdue now one) + overdue_count_of name.key name.session now jobs) (sym mine))
      | inr off ↦
          ap (overdue_count now) (cond-false (is_own name one) (one ∷ own) own off)
          ∙ (rest
          ∙ (none-more (overdue_count_of name.key name.session now jobs)
          ∙ ap (λ (b : Bool). one_if (b && is_overdue now one) + overdue_count_of name.key name.session now jobs) (sym off)))
    ]

pub stays-quiet : {S : Type 0} (setting : Setting S) (name : Name) (state : State S) → All IsUnfailed state.jobs
    → overdue_count_of name.key name.session setting.now state.jobs ≡ 0 → only name (ticks setting state) ≡ only name state
stays-quiet setting name state unfailed none =
    ticks-alone setting name state
    ∙ ticks-none setting (only name state) (All-filter (is_own name) IsUnfailed state.jobs unfailed) (own-overdue name setting.now state.jobs ∙ none)
