-- All sessions, where one of them speaks or is lost.
use Rattle.std.proofs.Common.{◌≡◌, ◌≢◌, ◌∙◌, ℕ, zero, suc, Bool, true, false, cond, Option, Some, None, List, [], ◌∷◌, ◌++◌, ap, sym, subst, refl, inl, inr}
use Rattle.std.specs.Prelude.{map, not}
use Rattle.std.specs.List.{find}
use Rattle.std.proofs.lemmas.Bool.{cases_Bool, cond-true, cond-false, cond_both}
use Rattle.std.proofs.lemmas.List.Kept.{AllPairs-filter}
use Rattle.std.proofs.lemmas.List.Elements.{filter-append}
use Rattle.id_window.specs.History.{History}
use Rattle.waits.specs.declared.job.Job.{Job}
use Rattle.waits.specs.declared.job.Unfinished.{Unfinished}
use Rattle.waits.specs.Jobs.{Queue, is_of, first_job, without_first, without_session as without_jobs_of}
use Rattle.server_rules.specs.Server.{Name, Session, name_of, is_same, is_named, session_named, with_session, without_session}
use Rattle.server_rules.specs.Event.{Setting, State, Speaker, speaker_in, spoken, spoken_by, speaks}
use Rattle.server_rules.specs.Waiting.{gives_up, given_up, first_given_up, all_given_up}
use Rattle.law_server.specs.Order.{IsMidway, IsMidwayAt, IsGoingOn, IsSpeaking, jobs_of}
use Rattle.law_server.proofs.Lists.{pairs-same}
use Rattle.law_server.proofs.Midway.{midway-out}
use Rattle.law_server.proofs.Names.{cases_name, same-names, names-same, apart-names, named}
use Rattle.law_server.proofs.Own.{IsTaken, first-taken, around-own, around-others, of-another, is-of, lost-own, lost-others, some-same, none-some}
use Rattle.law_server.proofs.Rows.{gives_up-keeps}

-- ---- sessions by their names

pub find-first : {X : Type 0} (test : X → Bool) (x : X) (xs : List X) → test x ≡ true → find test (x ∷ xs) ≡ Some x
find-first test x xs is = cond-true (test x) (Some x) (find test xs) is

pub find-other : {X : Type 0} (test : X → Bool) (x : X) (xs : List X) → test x ≡ false → find test (x ∷ xs) ≡ find test xs
find-other test x xs is = cond-false (test x) (Some x) (find test xs) is

-- the session that is found has the name
pub found-named : (name : Name) (sessions : List Session) (session : Session) → session_named name sessions ≡ Some session → name_of session ≡ name
found-named name [] session is = absurd (none-some session is)
found-named name (first ∷ sessions) session is =
    elim (cases_Bool (is_named name first)) [
      | inl holds ↦
          let first_is : first ≡ session = some-same first session (sym (find-first (is_named name) first sessions holds) ∙ is) in
          ap name_of (sym first_is) ∙ sym (same-names name (name_of first) holds)
      | inr fails ↦ found-named name sessions session (sym (find-other (is_named name) first sessions fails) ∙ is)
    ]

-- names in common
named-same : (name : Name) (one other : Session) → name_of one ≡ name_of other → is_named name one ≡ is_named name other
named-same name one other same = ap (is_same name) same

pub with-own : (session : Session) (sessions : List Session) (before : Session) → session_named (name_of session) sessions ≡ Some before
    → session_named (name_of session) (with_session session sessions) ≡ Some session
with-own session [] before is = absurd (none-some before is)
with-own session (first ∷ sessions) before is =
    let test = is_named (name_of session) in
    let rest = with_session session sessions in
    let own = names-same (name_of session) (name_of session) refl in
    elim (cases_Bool (test first)) [
      | inl holds ↦
          ap (λ (one : Session). find test (one ∷ rest)) (cond-true (test first) session first holds)
          ∙ find-first test session rest own
      | inr fails ↦
          ap (λ (one : Session). find test (one ∷ rest)) (cond-false (test first) session first fails)
          ∙ (find-other test first rest fails
          ∙ with-own session sessions before (sym (find-other test first sessions fails) ∙ is))
    ]

pub with-others : (other : Name) (session : Session) (sessions : List Session) → other ≢ name_of session
    → session_named other (with_session session sessions) ≡ session_named other sessions
with-others other session [] apart = refl
with-others other session (first ∷ sessions) apart =
    let test = is_named (name_of session) in
    let rest = with_session session sessions in
    let off : is_named other session ≡ false = apart-names other (name_of session) apart in
    elim (cases_Bool (test first)) [
      | inl holds ↦
          let same : is_named other first ≡ false = named-same other first session (sym (same-names (name_of session) (name_of first) holds)) ∙ off in
          ap (λ (one : Session). find (is_named other) (one ∷ rest)) (cond-true (test first) session first holds)
          ∙ (find-other (is_named other) session rest off
          ∙ (with-others other session sessions apart ∙ sym (find-other (is_named other) first sessions same)))
      | inr fails ↦
          ap (λ (one : Session). find (is_named other) (one ∷ rest)) (cond-false (test first) session first fails)
          ∙ ap (λ (found : Option Session). cond (is_named other first) (Some first) found) (with-others other session sessions apart)
    ]

pub with-names : (session : Session) (sessions : List Session) → map name_of sessions ≡ map name_of (with_session session sessions)
with-names session [] = refl
with-names session (first ∷ sessions) =
    let test = is_named (name_of session) in
    let same : name_of first ≡ name_of (cond (test first) session first) =
    cond_both (test first) session first (λ (one : Session). name_of first ≡ name_of one) (λ holds. sym (same-names (name_of session) (name_of first) holds)) (λ fails. refl) in
    ap (λ (name : Name). name ∷ map name_of sessions) same
    ∙ ap (λ (names : List Name). name_of (cond (test first) session first) ∷ names) (with-names session sessions)

pub lost-name : (name : Name) (sessions : List Session) → session_named name (without_session name sessions) ≡ None
lost-name name [] = refl
lost-name name (first ∷ sessions) =
    elim (cases_Bool (is_named name first)) [
      | inl holds ↦ rw holds (lost-name name sessions)
      | inr fails ↦ rw (fails, fails) (lost-name name sessions)
    ]

pub lost-other_name : (name other : Name) (sessions : List Session) → other ≢ name → session_named other (without_session name sessions) ≡ session_named other sessions
lost-other_name name other [] apart = refl
lost-other_name name other (first ∷ sessions) apart =
    elim (cases_Bool (is_named name first)) [
      | inl holds ↦
          let is = same-names name (name_of first) holds in
          let off : is_named other first ≡ false = apart-names other (name_of first) (λ same. apart (same ∙ sym is)) in
          rw (holds, off) (lost-other_name name other sessions apart)
      | inr fails ↦
          rw fails (ap (λ (found : Option Session). cond (is_named other first) (Some first) found) (lost-other_name name other sessions apart))
    ]

-- ---- open numbers and histories at another name

abbrev pub IsPast : Type 0
IsPast = Name → History

abbrev pub Open : Type 0
Open = Name → List ℕ

at-open : (past then : History) (opened later : List ℕ) (session : Option Session) (jobs : Queue) → past ≡ then → opened ≡ later
    → IsMidwayAt past opened session jobs → IsMidwayAt then later session jobs
at-open past then opened later session jobs same_past same is =
    let P : List ℕ → Type 0 = λ numbers. IsMidwayAt past numbers session jobs in
    let Q : History → Type 0 = λ history. IsMidwayAt history later session jobs in
    subst Q same_past (subst P same is)

at-same : (past : History) (opened : List ℕ) (session other : Option Session) (jobs rest : Queue) → session ≡ other → jobs ≡ rest
    → IsMidwayAt past opened session jobs → IsMidwayAt past opened other rest
at-same past opened session other jobs rest same same_jobs is =
    let P : Option Session → Type 0 = λ found. IsMidwayAt past opened found jobs in
    let Q : Queue → Type 0 = λ queue. IsMidwayAt past opened other queue in
    subst Q same_jobs (subst P same is)

-- ---- one session speaks

-- whatever its other jobs are, a session that speaks goes on so
abbrev pub GoesOn : {S : Type 0} → Name → History → History → List ℕ → List ℕ → Speaker S → (Speaker S → Speaker S) → Type 0
GoesOn name past then opened later speaker speak =
    (others : Name → Queue) → IsSpeaking name others past opened speaker → IsSpeaking name others then later (speak speaker)

-- other names have the same histories and open numbers before and after
abbrev pub StayApart : Name → IsPast → IsPast → Open → Open → Type 0
StayApart name past then opened later = (other : Name) → other ≢ name → (past other ≡ then other) × (opened other ≡ later other)

speaks-own : {S : Type 0} (name : Name) (past : History) (opened : List ℕ) (state : State S) (session : Session)
    → session_named name state.sessions ≡ Some session → IsMidwayAt past opened (session_named name state.sessions) (jobs_of name state.jobs)
    → IsSpeaking name (λ other. jobs_of other state.jobs) past opened (speaker_in state session)
speaks-own name past opened state session is at =
    let names = found-named name state.sessions session is in
    let P : Option Session → Type 0 = λ found. IsMidwayAt past opened found (jobs_of name state.jobs) in
    let midway = subst P is at in
    record {
      of_key = ap (λ (name : Name). name.key) names;
      of_session = ap (λ (name : Name). name.session) names;
      same = midway.0;
      midway = midway.1;
      apart = λ other apart. refl;
    }

spoken-goes : {S : Type 0} (name : Name) (past then : IsPast) (opened later : Open) (speak : Speaker S → Speaker S) (state : State S) (session : Session)
    → session_named name state.sessions ≡ Some session → StayApart name past then opened later
    → GoesOn name (past name) (then name) (opened name) (later name) (speaker_in state session) speak
    → IsGoingOn past opened state.sessions state.jobs
    → IsGoingOn then later (spoken state (speak (speaker_in state session))).sessions (spoken state (speak (speaker_in state session))).jobs
spoken-goes name past then opened later speak state session is same goes on =
    let speaker = speak (speaker_in state session) in
    let s = goes (λ other. jobs_of other state.jobs) (speaks-own name (past name) (opened name) state session is (on.each name)) in
    let named_so : name_of speaker.session ≡ name = ap (λ (k : ℕ). named k speaker.session.number) s.of_key ∙ ap (named name.key) s.of_session in
    let sessions = with_session speaker.session state.sessions in
    record {
      names = pairs-same (λ (one other : Name). one ≢ other) name_of state.sessions sessions (with-names speaker.session state.sessions) on.names;
      each = λ other.
          elim (cases_name other name) [
            | inl own ↦
                let N : Name → Type 0 = λ name. session_named name state.sessions ≡ Some session in
                let found : session_named (name_of speaker.session) sessions ≡ Some speaker.session =
                with-own speaker.session state.sessions session (subst N (sym named_so) is) in
                let M : Name → Type 0 = λ name. session_named name sessions ≡ Some speaker.session in
                let found_so = subst M named_so found in
                let P : Name → Type 0 = λ other. IsMidwayAt (then other) (later other) (session_named other sessions) (jobs_of other speaker.jobs) in
                let Q : Option Session → Type 0 = λ found. IsMidwayAt (then name) (later name) found (jobs_of name speaker.jobs) in
                subst P (sym own) (subst Q (sym found_so) (s.same, s.midway))
            | inr apart ↦
                at-same (then other) (later other) (session_named other state.sessions) (session_named other sessions) (jobs_of other state.jobs) (jobs_of other speaker.jobs)
                (sym (with-others other speaker.session state.sessions (λ is. apart (is ∙ named_so)))) (sym (s.apart other apart))
                (at-open (past other) (then other) (opened other) (later other) (session_named other state.sessions) (jobs_of other state.jobs) (same other apart).0 (same other apart).1 (on.each other))
          ];
    }

silent-goes : {S : Type 0} (name : Name) (past then : IsPast) (opened later : Open) (state : State S)
    → session_named name state.sessions ≡ None → StayApart name past then opened later
    → IsGoingOn past opened state.sessions state.jobs → IsGoingOn then later state.sessions state.jobs
silent-goes name past then opened later state is same on = record {
  names = on.names;
  each = λ other.
      elim (cases_name other name) [
        | inl own ↦
            let here : session_named other state.sessions ≡ None = ap (λ (name : Name). session_named name state.sessions) own ∙ is in
            let P : Option Session → Type 0 = λ found. IsMidwayAt (past other) (opened other) found (jobs_of other state.jobs) in
            let Q : Option Session → Type 0 = λ found. IsMidwayAt (then other) (later other) found (jobs_of other state.jobs) in
            subst Q (sym here) (subst P here (on.each other))
        | inr apart ↦ at-open (past other) (then other) (opened other) (later other) (session_named other state.sessions) (jobs_of other state.jobs) (same other apart).0 (same other apart).1 (on.each other)
      ];
}

by-goes : {S : Type 0} (name : Name) (past then : IsPast) (opened later : Open) (speak : Speaker S → Speaker S) (state : State S) (found : Option Session)
    → session_named name state.sessions ≡ found → StayApart name past then opened later
    → ((session : Session) → session_named name state.sessions ≡ Some session → GoesOn name (past name) (then name) (opened name) (later name) (speaker_in state session) speak)
    → IsGoingOn past opened state.sessions state.jobs
    → IsGoingOn then later (spoken_by found speak state).sessions (spoken_by found speak state).jobs
by-goes name past then opened later speak state None is same goes on = silent-goes name past then opened later state is same on
by-goes name past then opened later speak state (Some session) is same goes on = spoken-goes name past then opened later speak state session is same (goes session is) on

-- where one session speaks so that it stays in order, all sessions do
pub speaks-goes : {S : Type 0} (name : Name) (past then : IsPast) (opened later : Open) (speak : Speaker S → Speaker S) (state : State S)
    → StayApart name past then opened later
    → ((session : Session) → session_named name state.sessions ≡ Some session → GoesOn name (past name) (then name) (opened name) (later name) (speaker_in state session) speak)
    → IsGoingOn past opened state.sessions state.jobs → IsGoingOn then later (speaks name speak state).sessions (speaks name speak state).jobs
speaks-goes name past then opened later speak state same goes on =
    by-goes name past then opened later speak state (session_named name state.sessions) refl same goes on

-- ---- one session is lost

pub lost-goes : (name : Name) (past : IsPast) (opened : Open) (sessions : List Session) (jobs : Queue)
    → IsGoingOn past opened sessions jobs → IsGoingOn past opened (without_session name sessions) (without_jobs_of name.key name.session jobs)
lost-goes name past opened sessions jobs on = record {
  names = AllPairs-filter (λ (one other : Session). name_of one ≢ name_of other) (λ session. not (is_named name session)) sessions on.names;
  each = λ other.
      elim (cases_name other name) [
        | inl own ↦
            let rest = without_session name sessions in
            let others = without_jobs_of name.key name.session jobs in
            let P : Name → Type 0 = λ other. IsMidwayAt (past other) (opened other) (session_named other rest) (jobs_of other others) in
            let Q : Option Session → Type 0 = λ found. IsMidwayAt (past name) (opened name) found (jobs_of name others) in
            subst P (sym own) (subst Q (sym (lost-name name sessions)) (lost-own name jobs))
        | inr apart ↦
            at-same (past other) (opened other) (session_named other sessions) (session_named other (without_session name sessions)) (jobs_of other jobs)
            (jobs_of other (without_jobs_of name.key name.session jobs))
            (sym (lost-other_name name other sessions apart)) (sym (lost-others name other jobs apart)) (on.each other)
      ];
}

-- ---- a job is taken out

-- one more open number at this name
abbrev pub opened_at : Name → ℕ → Open → Open
opened_at name number opened other = cond (is_same other name) (number ∷ opened other) (opened other)

pub opened-own : (name : Name) (number : ℕ) (opened : Open) → opened_at name number opened name ≡ number ∷ opened name
opened-own name number opened = cond-true (is_same name name) (number ∷ opened name) (opened name) (names-same name name refl)

pub opened-others : (name other : Name) (number : ℕ) (opened : Open) → other ≢ name → opened_at name number opened other ≡ opened other
opened-others name other number opened apart = cond-false (is_same other name) (number ∷ opened other) (opened other) (apart-names other name apart)

not-nil : {X : Type 0} (xs : List X) (x : X) (ys : List X) → xs ++ x ∷ ys ≡ [] → ⊥
not-nil {X} [] x ys is =
    let P : List X → Type 0 = λ zs. elim zs [ [] ↦ ⊥ | z ∷ more ↦ Unit {0} ] in
    subst P is tt
not-nil {X} (first ∷ xs) x ys is =
    let P : List X → Type 0 = λ zs. elim zs [ [] ↦ ⊥ | z ∷ more ↦ Unit {0} ] in
    subst P is tt

taken-at : (past : History) (opened : List ℕ) (session : Option Session) (name : Name) (job : Job) (jobs rest : Queue) → IsTaken job jobs rest
    → job.key ≡ name.key → job.session ≡ name.session
    → IsMidwayAt past opened session (jobs_of name jobs) → IsMidwayAt past (job.number ∷ opened) session (jobs_of name rest)
taken-at past opened None name job jobs rest taken of_key of_session is =
    let own = is-of name.key name.session taken.one (ap (λ (job : Job). job.key) taken.is ∙ of_key) (ap (λ (job : Job). job.session) taken.is ∙ of_session) in
    absurd (not-nil (jobs_of name taken.before) taken.one (jobs_of name taken.after)
    (sym (ap (jobs_of name) taken.all ∙ around-own name taken.before taken.one taken.after own) ∙ is))
taken-at past opened (Some session) name job jobs rest taken of_key of_session is =
    let own = is-of name.key name.session taken.one (ap (λ (job : Job). job.key) taken.is ∙ of_key) (ap (λ (job : Job). job.session) taken.is ∙ of_session) in
    let history = session.history in
    let replies = session.replies in
    let last = session.counters.last in
    let P : Queue → Type 0 = IsMidway opened history replies last in
    let Q : Queue → Type 0 = IsMidway (taken.one.job.number ∷ opened) history replies last in
    let R : Job → Type 0 = λ job. IsMidway (job.number ∷ opened) history replies last (jobs_of name rest) in
    let with_one = ap (jobs_of name) taken.all ∙ around-own name taken.before taken.one taken.after own in
    let without : jobs_of name rest ≡ jobs_of name taken.before ++ jobs_of name taken.after =
    ap (jobs_of name) taken.others ∙ filter-append (is_of name.key name.session) taken.before taken.after in (
      is.0,
      subst R taken.is (subst Q (sym without)
          (midway-out (jobs_of name taken.before) taken.one (jobs_of name taken.after) opened history replies last (subst P with_one is.1))),
    )

taken-apart : (name other : Name) (job : Job) (jobs rest : Queue) → IsTaken job jobs rest → job.key ≡ name.key → job.session ≡ name.session → other ≢ name
    → jobs_of other jobs ≡ jobs_of other rest
taken-apart name other job jobs rest taken of_key of_session apart =
    let own = is-of name.key name.session taken.one (ap (λ (job : Job). job.key) taken.is ∙ of_key) (ap (λ (job : Job). job.session) taken.is ∙ of_session) in
    ap (jobs_of other) taken.all
    ∙ (around-others other taken.before taken.one taken.after (of-another other name taken.one (λ is. apart (sym is)) own)
    ∙ ap (jobs_of other) (sym taken.others))

pub taken-goes : (past : IsPast) (opened : Open) (sessions : List Session) (name : Name) (job : Job) (jobs rest : Queue) → IsTaken job jobs rest
    → job.key ≡ name.key → job.session ≡ name.session
    → IsGoingOn past opened sessions jobs → IsGoingOn past (opened_at name job.number opened) sessions rest
taken-goes past opened sessions name job jobs rest taken of_key of_session on = record {
  names = on.names;
  each = λ other.
      elim (cases_name other name) [
        | inl own ↦
            let P : Name → Type 0 = λ other. IsMidwayAt (past other) (opened_at name job.number opened other) (session_named other sessions) (jobs_of other rest) in
            let Q : List ℕ → Type 0 = λ numbers. IsMidwayAt (past name) numbers (session_named name sessions) (jobs_of name rest) in
            subst P (sym own) (subst Q (sym (opened-own name job.number opened))
            (taken-at (past name) (opened name) (session_named name sessions) name job jobs rest taken of_key of_session (on.each name)))
        | inr apart ↦
            at-open (past other) (past other) (opened other) (opened_at name job.number opened other) (session_named other sessions) (jobs_of other rest) refl
            (sym (opened-others name other job.number opened apart))
            (at-same (past other) (opened other) (session_named other sessions) (session_named other sessions) (jobs_of other jobs) (jobs_of other rest) refl
            (taken-apart name other job jobs rest taken of_key of_session apart) (on.each other))
      ];
}

-- ---- jobs that are given up

-- what is taken out by a search for the first job
pub none-taken : (test : Unfinished → Bool) (jobs : Queue) → first_job test jobs ≡ None → without_first test jobs ≡ jobs
none-taken test [] is = refl
none-taken test (one ∷ jobs) is =
    elim (cases_Bool (test one)) [
      | inl holds ↦ absurd (none-some one.job (sym is ∙ cond-true (test one) (Some one.job) (first_job test jobs) holds))
      | inr fails ↦
          cond-false (test one) jobs (one ∷ without_first test jobs) fails
          ∙ ap (λ (rest : Queue). one ∷ rest) (none-taken test jobs (sym (cond-false (test one) (Some one.job) (first_job test jobs) fails) ∙ is))
    ]

given_up-goes : {S : Type 0} (setting : Setting S) (content : List ℕ) (test : Unfinished → Bool) (past : IsPast) (opened : Open) (state : State S) (job : Option Job)
    → first_job test state.jobs ≡ job → IsGoingOn past opened state.sessions state.jobs
    → IsGoingOn past opened (given_up setting content job (record state { jobs = without_first test state.jobs })).sessions
    (given_up setting content job (record state { jobs = without_first test state.jobs })).jobs
given_up-goes setting content test past opened state None is on =
    let P : Queue → Type 0 = IsGoingOn past opened state.sessions in
    subst P (sym (none-taken test state.jobs is)) on
given_up-goes {S} setting content test past opened state (Some job) is on =
    let name = named job.key job.session in
    let rest : State S = record state { jobs = without_first test state.jobs } in
    speaks-goes name past past (opened_at name job.number opened) opened (gives_up setting content job) rest
    (λ other apart. (refl, opened-others name other job.number opened apart))
    (λ session found others s.
    let P : List ℕ → Type 0 = λ numbers. IsSpeaking name others (past name) numbers (speaker_in rest session) in
    gives_up-keeps setting content job name others (past name) (opened name) (speaker_in rest session) (subst P (opened-own name job.number opened) s))
    (taken-goes past opened state.sessions name job state.jobs (without_first test state.jobs) (first-taken test state.jobs job is) refl refl on)

pub first_given-goes : {S : Type 0} (setting : Setting S) (content : List ℕ) (test : Unfinished → Bool) (past : IsPast) (opened : Open) (state : State S)
    → IsGoingOn past opened state.sessions state.jobs
    → IsGoingOn past opened (first_given_up setting content (λ queue. (first_job test queue, without_first test queue)) state).sessions
    (first_given_up setting content (λ queue. (first_job test queue, without_first test queue)) state).jobs
first_given-goes setting content test past opened state on =
    given_up-goes setting content test past opened state (first_job test state.jobs) refl on

pub all_given-goes : {S : Type 0} (setting : Setting S) (content : List ℕ) (test : Unfinished → Bool) (past : IsPast) (opened : Open) (n : ℕ) (state : State S)
    → IsGoingOn past opened state.sessions state.jobs
    → IsGoingOn past opened (all_given_up setting content (λ queue. (first_job test queue, without_first test queue)) n state).sessions
    (all_given_up setting content (λ queue. (first_job test queue, without_first test queue)) n state).jobs
all_given-goes setting content test past opened zero state on = on
all_given-goes setting content test past opened (suc n) state on =
    all_given-goes setting content test past opened n (first_given_up setting content (λ queue. (first_job test queue, without_first test queue)) state)
    (first_given-goes setting content test past opened state on)
