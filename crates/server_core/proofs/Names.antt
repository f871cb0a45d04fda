-- Names of sessions.
use Rattle.std.proofs.Common.{◌≡◌, ◌≢◌, ◌∙◌, ℕ, true, false, cond, Bool, Some, None, List, [], ◌∷◌, ap, sym, refl, inl, inr}
use Rattle.std.specs.List.{find}
use Rattle.std.proofs.lemmas.Bool.{cases_Bool, cond-true, cond-false, and_parts, and_from, eqb-true, eq-eqb}
use Rattle.server_rules.specs.Server.{Name, Session, is_named, is_same, name_of, session_named, with_session}

abbrev pub named : ℕ → ℕ → Name
named key session = record { key = key; session = session }

pub name-by : (one other : Name) → one.key ≡ other.key → one.session ≡ other.session → one ≡ other
name-by one other key session =
    ap (λ (k : ℕ). named k one.session) key ∙ ap (λ (s : ℕ). named other.key s) session

pub same-names : (one other : Name) → is_same one other ≡ true → one ≡ other
same-names one other is =
    let parts = and_parts _ _ is in
    name-by one other (eqb-true one.key other.key parts.0) (eqb-true one.session other.session parts.1)

pub names-same : (one other : Name) → one ≡ other → is_same one other ≡ true
names-same one other is =
    and_from _ _ (eq-eqb one.key other.key (ap (λ (name : Name). name.key) is)) (eq-eqb one.session other.session (ap (λ (name : Name). name.session) is))

pub apart-names : (one other : Name) → one ≢ other → is_same one other ≡ false
apart-names one other apart =
    elim (cases_Bool (is_same one other)) [
      | inl is ↦ absurd (apart (same-names one other is))
      | inr not_same ↦ not_same
    ]

pub some-same : {X : Type 0} (x y : X) → Some x ≡ Some y → x ≡ y
some-same x y same = cc

pub none-some : {X : Type 0} (x : X) → None ≡ Some x → ⊥
none-some x same = cc

pub find-first : {X : Type 0} (test : X → Bool) (x : X) (xs : List X) → test x ≡ true → find test (x ∷ xs) ≡ Some x
find-first test x xs is = cond-true (test x) (Some x) (find test xs) is

pub find-other : {X : Type 0} (test : X → Bool) (x : X) (xs : List X) → test x ≡ false → find test (x ∷ xs) ≡ find test xs
find-other test x xs is = cond-false (test x) (Some x) (find test xs) is

-- the session that is found has the name
pub found-named : (name : Name) (sessions : List Session) (session : Session) → session_named name sessions ≡ Some session → name_of session ≡ name
found-named name [] session is = absurd (none-some session is)
found-named name (first ∷ sessions) session is =
    elim (cases_Bool (is_named name first)) [
      | inl holds ↦
          let first_is : first ≡ session = some-same first session (sym (find-first (is_named name) first sessions holds) ∙ is) in
          ap name_of (sym first_is) ∙ sym (same-names name (name_of first) holds)
      | inr fails ↦ found-named name sessions session (sym (find-other (is_named name) first sessions fails) ∙ is)
    ]

-- the session that took the place of one is found
pub with-own : (session : Session) (sessions : List Session) (before : Session) → session_named (name_of session) sessions ≡ Some before
    → session_named (name_of session) (with_session session sessions) ≡ Some session
with-own session [] before is = absurd (none-some before is)
with-own session (first ∷ sessions) before is =
    let test = is_named (name_of session) in
    let rest = with_session session sessions in
    let own = names-same (name_of session) (name_of session) refl in
    elim (cases_Bool (test first)) [
      | inl holds ↦
          ap (λ (one : Session). find test (one ∷ rest)) (cond-true (test first) session first holds)
          ∙ find-first test session rest own
      | inr fails ↦
          ap (λ (one : Session). find test (one ∷ rest)) (cond-false (test first) session first fails)
          ∙ (find-other test first rest fails
          ∙ with-own session sessions before (sym (find-other test first sessions fails) ∙ is))
    ]

-- this one, where the other has its name
abbrev with_one : Session → Session → Session
with_one session other = cond (is_named (name_of session) other) session other

-- the later one of a name stays
pub with-twice : (one other : Session) (sessions : List Session) → name_of one ≡ name_of other
    → with_session other (with_session one sessions) ≡ with_session other sessions
with-twice one other [] same = refl
with-twice one other (first ∷ sessions) same =
    let own : is_named (name_of other) one ≡ true = names-same (name_of other) (name_of one) (sym same) in
    let alike : is_named (name_of other) first ≡ is_named (name_of one) first = ap (λ (name : Name). is_named name first) (sym same) in
    let rest = with-twice one other sessions same in
    elim (cases_Bool (is_named (name_of one) first)) [
      | inl holds ↦
          ap (λ (now : Session). with_one other now ∷ with_session other (with_session one sessions)) (cond-true (is_named (name_of one) first) one first holds)
          ∙ (ap (λ (now : Session). now ∷ with_session other (with_session one sessions)) (cond-true (is_named (name_of other) one) other one own)
          ∙ (ap (λ (others : List Session). other ∷ others) rest
          ∙ ap (λ (now : Session). now ∷ with_session other sessions) (sym (cond-true (is_named (name_of other) first) other first (alike ∙ holds)))))
      | inr fails ↦
          ap (λ (now : Session). with_one other now ∷ with_session other (with_session one sessions)) (cond-false (is_named (name_of one) first) one first fails)
          ∙ ap (λ (others : List Session). with_one other first ∷ others) rest
    ]
