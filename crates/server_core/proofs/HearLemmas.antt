-- A session that is heard, as it is kept among the others.
use Rattle.std.proofs.Common.{◌≡◌, ◌≢◌, ◌∙◌, ℕ, true, false, Option, Some, None, List, [], ◌∷◌, length, ap, sym, subst, refl, inl, inr, arith}
use Rattle.std.specs.Prelude.{nat_lt}
use Rattle.std.specs.List.{All}
use Rattle.std.proofs.lemmas.Bool.{cases_Bool, cond-true, cond-false, false≢true}
use Rattle.std.proofs.lemmas.List.Elements.{All-nil, All-cons, All-head, All-tail}
use Rattle.waits.specs.Jobs.{Queue, without_session as without_jobs_of}
use Rattle.server_rules.specs.Server.{Name, Session, Server as Rules, is_named, is_same, name_of, session_named, sessions_max, without_session}
use Rattle.server_rules.specs.Event.{Envelope, Setting, State}
use Rattle.server_rules.specs.Answer.{begun, name_in, with_place as place_made, without_first}
use Rattle.server_session.specs.declared.session.SessionState.{SessionState}
use Rattle.server_session.specs.SessionState.{Stands as StandsFor}
use Rattle.server_session.specs.Names.{name_kept}
use Rattle.server_core.specs.Among.{heard_among, heard_by}
use Rattle.server_core.specs.Hearing.{IsHeard}
use Rattle.server_core.specs.Others.{first_lost, first_of, rest_of, with_place, without_lost}
use Rattle.server_core.specs.Sessions.{AreApart, AreKept, is_kept_as, kept_as, without_kept}
use Rattle.server_core.proofs.Lists.{pairs-head}
use Rattle.server_core.proofs.Names.{apart-names, find-first, find-other, found-named, names-same, none-some, same-names, some-same}
use Rattle.server_core.proofs.Spent.{AreOthers}
use Rattle.server_core.proofs.Speaking.{sessions-apart}
use Rattle.server_core.proofs.SessionState.{HasItsName, others-kept}

-- the one that is kept under a name has it, and the others have others

pub one-named : (name : Name) (standings : List SessionState) (one : SessionState) → kept_as name standings ≡ Some one → name_kept one ≡ name
one-named name [] one is = absurd (none-some one is)
one-named name (standing ∷ standings) one is =
    elim (cases_Bool (is_kept_as name standing)) [
      | inl holds ↦
          let first : standing ≡ one = some-same standing one (sym (find-first (is_kept_as name) standing standings holds) ∙ is) in
          ap name_kept (sym first) ∙ sym (same-names name (name_kept standing) holds)
      | inr fails ↦ one-named name standings one (sym (find-other (is_kept_as name) standing standings fails) ∙ is)
    ]

abbrev IsOther : Name → SessionState → Type 0
IsOther name other = name_kept other ≢ name

pub others-apart : (name : Name) (standings : List SessionState) → All (λ other. name_kept other ≢ name) (without_kept name standings)
others-apart name [] = All-nil (IsOther name)
others-apart name (standing ∷ standings) =
    elim (cases_Bool (is_kept_as name standing)) [
      | inl is ↦ rw is (others-apart name standings)
      | inr not_so ↦
          rw not_so (All-cons (IsOther name) standing (without_kept name standings)
          (λ same. false≢true (sym not_so ∙ names-same name (name_kept standing) (sym same)))
          (others-apart name standings))
    ]

-- what is kept of a session that is found stands for it
pub record IsFound (moment : ℕ) (name : Name) (one : SessionState) (sessions : List Session) : Type 0 where
  pub session : Session
  pub found : session_named name sessions ≡ Some session
  pub stands : StandsFor moment one session

found-kept : HasItsName → (moment : ℕ) (name : Name) (standings : List SessionState) (sessions : List Session) (one : SessionState) → AreKept moment standings sessions
    → kept_as name standings ≡ Some one → IsFound moment name one sessions
found-kept names moment name [] sessions one are is = absurd (none-some one is)
found-kept names moment name (standing ∷ standings) [] one are is = absurd are
found-kept names moment name (standing ∷ standings) (session ∷ sessions) one are is =
    let same : is_kept_as name standing ≡ is_named name session = ap (is_same name) (names moment standing session are.0) in
    let S : SessionState → Type 0 = λ standing. StandsFor moment standing session in
    elim (cases_Bool (is_kept_as name standing)) [
      | inl holds ↦
          let first : standing ≡ one = some-same standing one (sym (find-first (is_kept_as name) standing standings holds) ∙ is) in
          record { session = session; found = find-first (is_named name) session sessions (sym same ∙ holds); stands = subst S first are.0 }
      | inr fails ↦
          let rest = found-kept names moment name standings sessions one are.1 (sym (find-other (is_kept_as name) standing standings fails) ∙ is) in
          record { session = rest.session; found = find-other (is_named name) session sessions (sym same ∙ fails) ∙ rest.found; stands = rest.stands }
    ]

pub heard-known : {S : Type 0} → HasItsName → (setting : Setting S) (envelope : Envelope) (server : Rules) (draw : S) (standings others : List SessionState) (one : SessionState)
    → AreKept setting.now standings server.sessions → kept_as (name_in envelope) standings ≡ Some one → others ≡ without_kept (name_in envelope) standings
    → IsHeard setting.now others one server.jobs server.bindings draw (heard_among setting envelope (begun server draw))
heard-known {S} names setting envelope server draw standings others one are found left =
    let name = name_in envelope in
    let state : State S = begun server draw in
    let there = found-kept names setting.now name standings server.sessions one are found in
    let K : List SessionState → Type 0 = λ others. AreKept setting.now others (without_session (name_of there.session) server.sessions) in
    let N : Name → Type 0 = λ name. AreKept setting.now (without_kept name standings) (without_session (name_of there.session) server.sessions) in
    let named_so : name_of there.session ≡ name = found-named name server.sessions there.session there.found in
    let P : Option Session → Type 0 = λ found. IsHeard setting.now others one server.jobs server.bindings draw (heard_by setting envelope found state) in
    subst P (sym there.found)
    (record {
      others = subst K (sym left) (subst N named_so (others-kept names setting.now (name_of there.session) standings server.sessions are));
      stands = there.stands;
      jobs = refl;
      bindings = refl;
      draws = refl;
      owed = refl;
      sent = refl;
      entries = refl;
    })

-- ---- where all places are taken

kept-long : (moment : ℕ) (standings : List SessionState) (sessions : List Session) → AreKept moment standings sessions → length standings ≡ length sessions
kept-long moment [] [] are = refl
kept-long moment [] (session ∷ sessions) are = absurd are
kept-long moment (standing ∷ standings) [] are = absurd are
kept-long moment (standing ∷ standings) (session ∷ sessions) are = let rest = kept-long moment standings sessions are.1 in omega (arith, rest)

others-stay : (name : Name) (sessions : List Session) → All (λ (other : Session). name ≢ name_of other) sessions → without_session name sessions ≡ sessions
others-stay name [] apart = refl
others-stay name (session ∷ sessions) apart =
    let P : Session → Type 0 = λ other. name ≢ name_of other in
    let not_so : is_named name session ≡ false = apart-names name (name_of session) (All-head P session sessions apart) in
    rw not_so (ap (λ (rest : List Session). session ∷ rest) (others-stay name sessions (All-tail P session sessions apart)))

first-out : (session : Session) (sessions : List Session) → All (AreOthers session) sessions → without_session (name_of session) (session ∷ sessions) ≡ sessions
first-out session sessions apart =
    let own : is_named (name_of session) session ≡ true = names-same (name_of session) (name_of session) refl in
    rw own (others-stay (name_of session) sessions apart)

first-lost_kept : {S : Type 0} → HasItsName → (moment : ℕ) (standings : List SessionState) (sessions : List Session) (state : State S) → AreApart standings
    → AreKept moment standings sessions → state.sessions ≡ sessions → AreKept moment (rest_of standings) (without_first sessions state).sessions
first-lost_kept names moment [] [] state apart are is = subst (λ (sessions : List Session). AreKept moment [] sessions) (sym is) are
first-lost_kept names moment [] (session ∷ sessions) state apart are is = absurd are
first-lost_kept names moment (standing ∷ standings) [] state apart are is = absurd are
first-lost_kept names moment (standing ∷ standings) (session ∷ sessions) state apart are is =
    let all = sessions-apart names moment (standing ∷ standings) (session ∷ sessions) are apart in
    let left : without_session (name_of session) state.sessions ≡ sessions =
    ap (without_session (name_of session)) is ∙ first-out session sessions (pairs-head AreOthers session sessions all) in
    subst (λ (sessions : List Session). AreKept moment standings sessions) (sym left) are.1

first-lost_jobs : {S : Type 0} → HasItsName → (moment : ℕ) (standings : List SessionState) (sessions : List Session) (state : State S)
    → AreKept moment standings sessions → without_lost (first_of standings) state.jobs ≡ (without_first sessions state).jobs
first-lost_jobs names moment [] [] state are = refl
first-lost_jobs names moment [] (session ∷ sessions) state are = absurd are
first-lost_jobs names moment (standing ∷ standings) [] state are = absurd are
first-lost_jobs names moment (standing ∷ standings) (session ∷ sessions) state are =
    ap (λ (name : Name). without_jobs_of name.key name.session state.jobs) (names moment standing session are.0)

pub placed-kept : {S : Type 0} → HasItsName → (moment : ℕ) (standings : List SessionState) (state : State S) → AreApart standings
    → AreKept moment standings state.sessions → AreKept moment (with_place standings) (place_made state).sessions
placed-kept {S} names moment standings state apart are =
    let few = nat_lt (length state.sessions) sessions_max in
    let same : nat_lt (length standings) sessions_max ≡ few = ap (λ (n : ℕ). nat_lt n sessions_max) (kept-long moment standings state.sessions are) in
    let full : State S = without_first state.sessions state in
    let K : List SessionState → Type 0 = λ standings. AreKept moment standings (place_made state).sessions in
    let M : State S → Type 0 = λ state. AreKept moment standings state.sessions in
    let R : State S → Type 0 = λ state. AreKept moment (rest_of standings) state.sessions in
    elim (cases_Bool few) [
      | inl is ↦
          subst K (sym (cond-true (nat_lt (length standings) sessions_max) standings (rest_of standings) (same ∙ is)))
          (subst M (sym (cond-true few state full is)) are)
      | inr not_so ↦
          subst K (sym (cond-false (nat_lt (length standings) sessions_max) standings (rest_of standings) (same ∙ not_so)))
          (subst R (sym (cond-false few state full not_so)) (first-lost_kept names moment standings state.sessions state apart are refl))
    ]

pub placed-jobs : {S : Type 0} → HasItsName → (moment : ℕ) (standings : List SessionState) (state : State S)
    → AreKept moment standings state.sessions → without_lost (first_lost standings) state.jobs ≡ (place_made state).jobs
placed-jobs {S} names moment standings state are =
    let few = nat_lt (length state.sessions) sessions_max in
    let same : nat_lt (length standings) sessions_max ≡ few = ap (λ (n : ℕ). nat_lt n sessions_max) (kept-long moment standings state.sessions are) in
    let full : State S = without_first state.sessions state in
    let L : Option SessionState → Queue = λ lost. without_lost lost state.jobs in
    let J : State S → Queue = λ state. state.jobs in
    elim (cases_Bool few) [
      | inl is ↦
          ap L (cond-true (nat_lt (length standings) sessions_max) None (first_of standings) (same ∙ is))
          ∙ sym (ap J (cond-true few state full is))
      | inr not_so ↦
          ap L (cond-false (nat_lt (length standings) sessions_max) None (first_of standings) (same ∙ not_so))
          ∙ (first-lost_jobs names moment standings state.sessions state are ∙ sym (ap J (cond-false few state full not_so)))
    ]
