-- Sessions without room for a further event are lost one by one.
use Rattle.std.proofs.Common.{◌≡◌, ◌≢◌, ◌∙◌, ℕ, zero, suc, ◌<◌, ◌≤◌, true, false, not, Some, List, [], ◌∷◌, length, get_or, ap, sym, subst, refl, arith, inl, inr, one-add}
use Rattle.std.specs.Prelude.{fold, nat_lt}
use Rattle.std.specs.List.{All, AllPairs, filter, find, position_or_len}
use Rattle.std.proofs.lemmas.Bool.{cases_Bool, cond-true, cond-false, ltb-false}
use Rattle.std.proofs.lemmas.List.Elements.{All-cons, All-head, All-nil, All-tail}
use Rattle.std.proofs.lemmas.List.Filters.{length-filter_both}
use Rattle.waits.specs.Jobs.{Queue, without_session as without_jobs_of}
use Rattle.server_rules.specs.Server.{Name, Session, is_named, name_of, without_session}
use Rattle.server_rules.specs.Event.{State, lost}
use Rattle.server_rules.specs.Answer.{is_spent, room_min, without_spent}
use Rattle.server_session.specs.declared.session.SessionState.{SessionState}
use Rattle.server_session.specs.SessionState.{Stands, key_of, number_of, numbers_left}
use Rattle.server_session.specs.Names.{name_kept}
use Rattle.server_core.specs.Losing.{is_spent_kept}
use Rattle.server_core.specs.Sessions.{AreApart, AreKept, is_kept_as, without_kept}
use Rattle.server_core.proofs.Lists.{pairs-head, pairs-tail}
use Rattle.server_core.proofs.Names.{apart-names, find-first, find-other, names-same, none-some, some-same}
use Rattle.server_core.proofs.Spent.{AreOthers}
use Rattle.server_core.proofs.Speaking.{HasItsRoom, sessions-apart}
use Rattle.server_core.proofs.SessionState.{HasItsName, others-kept}

-- the first session without room, at its place
pub record IsSpentAt (now : ℕ) (standing : SessionState) (sessions : List Session) : Type 0 where
  pub session : Session
  pub found : find is_spent sessions ≡ Some session
  pub stands : Stands now standing session

pub spent-at : HasItsRoom → (now : ℕ) (standings : List SessionState) (sessions : List Session) (d : SessionState) → AreKept now standings sessions
    → position_or_len is_spent_kept standings < length standings → IsSpentAt now (get_or standings (position_or_len is_spent_kept standings) d) sessions
spent-at rooms now [] sessions d are within = absurd (omega arith)
spent-at rooms now (standing ∷ standings) [] d are within = absurd are
spent-at rooms now (standing ∷ standings) (session ∷ sessions) d are within =
    let same : is_spent_kept standing ≡ is_spent session = ap (λ (n : ℕ). nat_lt n room_min) (rooms now standing session are.0) in
    elim (cases_Bool (is_spent_kept standing)) [
      | inl is ↦
          let first : position_or_len is_spent_kept (standing ∷ standings) ≡ 0 = rw is refl in
          rw first (record { session = session; found = find-first is_spent session sessions (sym same ∙ is); stands = are.0 })
      | inr not_so ↦
          let later : position_or_len is_spent_kept (standing ∷ standings) ≡ suc (position_or_len is_spent_kept standings) = rw (not_so, one-add) refl in
          let rest = spent-at rooms now standings sessions d are.1 (omega arith) in
          rw later (record { session = rest.session; found = find-other is_spent session sessions (sym same ∙ not_so) ∙ rest.found; stands = rest.stands })
    ]

-- none is without room

all-room : (standings : List SessionState) → length standings ≤ position_or_len is_spent_kept standings → All (λ standing. room_min ≤ numbers_left standing) standings
all-room [] none = All-nil (λ (standing : SessionState). room_min ≤ numbers_left standing)
all-room (standing ∷ standings) none =
    elim (cases_Bool (is_spent_kept standing)) [
      | inl is ↦ let first : position_or_len is_spent_kept (standing ∷ standings) ≡ 0 = rw is refl in absurd (omega arith)
      | inr not_so ↦
          let later : position_or_len is_spent_kept (standing ∷ standings) ≡ suc (position_or_len is_spent_kept standings) = rw (not_so, one-add) refl in
          All-cons (λ (standing : SessionState). room_min ≤ numbers_left standing) standing standings (ltb-false (numbers_left standing) room_min not_so)
          (all-room standings (omega arith))
    ]

pub room-left : (standings : List SessionState) → length standings ≤ position_or_len is_spent_kept standings → All (λ standing. room_min ≤ numbers_left standing) standings
room-left standings none = all-room standings none

none-spent : HasItsRoom → (now : ℕ) (standings : List SessionState) (sessions : List Session) → AreKept now standings sessions
    → length standings ≤ position_or_len is_spent_kept standings → filter is_spent sessions ≡ []
none-spent rooms now [] [] are none = refl
none-spent rooms now [] (session ∷ sessions) are none = absurd are
none-spent rooms now (standing ∷ standings) [] are none = absurd are
none-spent rooms now (standing ∷ standings) (session ∷ sessions) are none =
    let same : is_spent_kept standing ≡ is_spent session = ap (λ (n : ℕ). nat_lt n room_min) (rooms now standing session are.0) in
    elim (cases_Bool (is_spent_kept standing)) [
      | inl is ↦ let first : position_or_len is_spent_kept (standing ∷ standings) ≡ 0 = rw is refl in absurd (omega arith)
      | inr not_so ↦
          let later : position_or_len is_spent_kept (standing ∷ standings) ≡ suc (position_or_len is_spent_kept standings) = rw (not_so, one-add) refl in
          cond-false (is_spent session) (session ∷ filter is_spent sessions) (filter is_spent sessions) (sym same ∙ not_so)
          ∙ none-spent rooms now standings sessions are.1 (omega arith)
    ]

pub none-lost : {S : Type 0} → HasItsRoom → (now : ℕ) (standings : List SessionState) (state : State S) → AreKept now standings state.sessions
    → length standings ≤ position_or_len is_spent_kept standings → without_spent state ≡ state
none-lost {S} rooms now standings state are none =
    ap (λ (spent : List Session). fold (λ (so_far : State S) (session : Session). lost (name_of session) so_far) state spent) (none-spent rooms now standings state.sessions are none)

-- the first one is

not-first : (session first : Session) (sessions : List Session) → name_of session ≢ name_of first
    → without_session (name_of session) (first ∷ sessions) ≡ first ∷ without_session (name_of session) sessions
not-first session first sessions apart =
    let off : is_named (name_of session) first ≡ false = apart-names (name_of session) (name_of first) apart in
    rw off refl

without-none : (session : Session) (sessions : List Session) → All (λ other. name_of session ≢ name_of other) sessions → without_session (name_of session) sessions ≡ sessions
without-none session [] apart = refl
without-none session (first ∷ sessions) apart =
    let P : Session → Type 0 = λ other. name_of session ≢ name_of other in
    not-first session first sessions (All-head P first sessions apart)
    ∙ ap (λ (others : List Session). first ∷ others) (without-none session sessions (All-tail P first sessions apart))

find-among : (P : Session → Type 0) (sessions : List Session) (session : Session) → All P sessions → find is_spent sessions ≡ Some session → P session
find-among P [] session all is = absurd (none-some session is)
find-among P (first ∷ sessions) session all is =
    elim (cases_Bool (is_spent first)) [
      | inl spent ↦
          subst P (some-same first session (sym (find-first is_spent first sessions spent) ∙ is)) (All-head P first sessions all)
      | inr not_so ↦ find-among P sessions session (All-tail P first sessions all) (sym (find-other is_spent first sessions not_so) ∙ is)
    ]

spent-first : (sessions : List Session) (session : Session) → AllPairs AreOthers sessions → find is_spent sessions ≡ Some session
    → filter is_spent sessions ≡ session ∷ filter is_spent (without_session (name_of session) sessions)
spent-first [] session apart is = absurd (none-some session is)
spent-first (first ∷ sessions) session apart is =
    elim (cases_Bool (is_spent first)) [
      | inl spent ↦
          (let same : first ≡ session = some-same first session (sym (find-first is_spent first sessions spent) ∙ is) in
          let own : is_named (name_of first) first ≡ true = names-same (name_of first) (name_of first) refl in
          let out : without_session (name_of first) (first ∷ sessions) ≡ sessions = rw own (without-none first sessions (pairs-head AreOthers first sessions apart)) in
          let P : Session → Type 0 = λ session. filter is_spent (first ∷ sessions) ≡ session ∷ filter is_spent (without_session (name_of session) (first ∷ sessions)) in
          subst P same
          (cond-true (is_spent first) (first ∷ filter is_spent sessions) (filter is_spent sessions) spent
          ∙ ap (λ (others : List Session). first ∷ filter is_spent others) (sym out)))
      | inr not_so ↦
          (let found = sym (find-other is_spent first sessions not_so) ∙ is in
          let apart_first : name_of first ≢ name_of session = find-among (λ (other : Session). name_of first ≢ name_of other) sessions session (pairs-head AreOthers first sessions apart) found in
          let left = without_session (name_of session) sessions in
          cond-false (is_spent first) (first ∷ filter is_spent sessions) (filter is_spent sessions) not_so
          ∙ (spent-first sessions session (pairs-tail AreOthers first sessions apart) found
          ∙ ap (λ (others : List Session). session ∷ others)
          (sym (ap (filter is_spent) (not-first session first sessions (λ same. apart_first (sym same)))
          ∙ cond-false (is_spent first) (first ∷ filter is_spent left) (filter is_spent left) not_so))))
    ]

pub lost-first : {S : Type 0} (state : State S) (session : Session) → AllPairs AreOthers state.sessions → find is_spent state.sessions ≡ Some session
    → without_spent (lost (name_of session) state) ≡ without_spent state
lost-first {S} state session apart is =
    sym (ap (λ (spent : List Session). fold (λ (so_far : State S) (session : Session). lost (name_of session) so_far) state spent) (spent-first state.sessions session apart is))

-- ---- one step

pub record AreLost (S : Type 0) (now : ℕ) (standings : List SessionState) (queue : Queue) (start : State S) : Type 0 where
  pub state : State S
  pub kept : AreKept now standings state.sessions
  pub jobs : queue ≡ state.jobs
  pub same : without_spent state ≡ without_spent start

pub lose-step : {S : Type 0} → HasItsName → HasItsRoom → (now : ℕ) (standings : List SessionState) (queue : Queue) (start : State S) (place : ℕ) (d : SessionState)
    → AreLost S now standings queue start → AreApart standings → position_or_len is_spent_kept standings ≡ place → place < length standings
    → AreLost S now (without_kept (name_kept (get_or standings place d)) standings)
    (without_jobs_of (key_of (get_or standings place d)) (number_of (get_or standings place d)) queue) start
lose-step {S} names rooms now standings queue start place d so_far apart at within =
    let state : State S = so_far.state in
    let first = position_or_len is_spent_kept standings in
    let there = subst (λ (n : ℕ). IsSpentAt now (get_or standings n d) state.sessions) at (spent-at rooms now standings state.sessions d so_far.kept (omega arith)) in
    let session = there.session in
    let standing = get_or standings place d in
    let its : name_kept standing ≡ name_of session = names now standing session there.stands in
    let next : State S = lost (name_of session) state in
    record {
      state = next;
      kept = subst (λ (name : Name). AreKept now (without_kept (name_kept standing) standings) (without_session name state.sessions)) its
          (others-kept names now (name_kept standing) standings state.sessions so_far.kept);
      jobs = ap (λ (name : Name). without_jobs_of name.key name.session queue) its ∙ ap (without_jobs_of (name_of session).key (name_of session).session) so_far.jobs;
      same = lost-first state session (sessions-apart names now standings state.sessions so_far.kept apart) there.found ∙ so_far.same;
    }

pub one-fewer : (standings : List SessionState) (place : ℕ) (d : SessionState) → place < length standings
    → length (without_kept (name_kept (get_or standings place d)) standings) < length standings
one-fewer [] place d within = absurd (omega arith)
one-fewer (standing ∷ standings) zero d within =
    let name = name_kept standing in
    let own : is_kept_as name standing ≡ true = names-same name name refl in
    let fewer = length-filter_both (λ (standing : SessionState). not (is_kept_as name standing)) (λ (standing : SessionState). not (not (is_kept_as name standing))) (λ standing. refl) standings in
    let out : without_kept name (standing ∷ standings) ≡ without_kept name standings = rw own refl in
    let long : length (without_kept name (standing ∷ standings)) ≡ length (without_kept name standings) = ap (λ (some : List SessionState). length some) out in
    omega arith
one-fewer (standing ∷ standings) (suc place) d within =
    let name = name_kept (get_or standings place d) in
    let rest = one-fewer standings place d (omega arith) in
    let left = without_kept name standings in
    elim (cases_Bool (is_kept_as name standing)) [
      | inl is ↦
          let out : without_kept name (standing ∷ standings) ≡ left = rw is refl in
          let long : length (without_kept name (standing ∷ standings)) ≡ length left = ap (λ (some : List SessionState). length some) out in
          omega arith
      | inr off ↦
          let out : without_kept name (standing ∷ standings) ≡ standing ∷ left = rw off refl in
          let long : length (without_kept name (standing ∷ standings)) ≡ length (standing ∷ left) = ap (λ (some : List SessionState). length some) out in
          omega arith
    ]
