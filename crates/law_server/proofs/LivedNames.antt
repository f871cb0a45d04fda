-- Names of sessions, and the sessions of a list by their names.
use Rattle.std.proofs.Common.{◌≡◌, ◌≢◌, ◌∙◌, ℕ, true, false, cond, Option, Some, None, List, [], ◌∷◌, ap, sym, subst, refl, inl, inr}
use Rattle.std.specs.Prelude.{◌⊎◌}
use Rattle.std.proofs.lemmas.Bool.{cases_Bool, cond-true, cond-false, and_parts, and_from, eqb-true, eq-eqb, false≢true}
use Rattle.server_rules.specs.Server.{Name, Session, name_of, is_same, is_named, session_named, without_session}

abbrev pub named : ℕ → ℕ → Name
named key session = record { key = key; session = session }

pub name-by : (one other : Name) → one.key ≡ other.key → one.session ≡ other.session → one ≡ other
name-by one other key session =
    let P : ℕ → Name = λ k. record { key = k; session = one.session } in
    let Q : ℕ → Name = λ s. record { key = other.key; session = s } in
    ap P key ∙ ap Q session

pub same-names : (one other : Name) → is_same one other ≡ true → one ≡ other
same-names one other is =
    let parts = and_parts _ _ is in
    name-by one other (eqb-true one.key other.key parts.0) (eqb-true one.session other.session parts.1)

pub names-same : (one other : Name) → one ≡ other → is_same one other ≡ true
names-same one other is =
    and_from _ _ (eq-eqb one.key other.key (ap (λ (name : Name). name.key) is)) (eq-eqb one.session other.session (ap (λ (name : Name). name.session) is))

pub cases_name : (one other : Name) → (one ≡ other) ⊎ (one ≢ other)
cases_name one other =
    elim (cases_Bool (is_same one other)) [
      | inl is ↦ inl (same-names one other is)
      | inr apart ↦ inr (λ same. false≢true (sym apart ∙ names-same one other same))
    ]

pub apart-names : (one other : Name) → one ≢ other → is_same one other ≡ false
apart-names one other apart =
    elim (cases_Bool (is_same one other)) [ inl is ↦ absurd (apart (same-names one other is)) | inr fails ↦ fails ]

-- ---- options

pub some-same : {X : Type 0} (x y : X) → Some x ≡ Some y → x ≡ y
some-same {X} x y same =
    let get : Option X → X = λ o. elim o [ Some z ↦ z | None ↦ x ] in
    ap get same

pub none-some : {X : Type 0} (x : X) → None ≡ Some x → ⊥
none-some {X} x same =
    let P : Option X → Type 0 = λ o. elim o [ Some z ↦ ⊥ | None ↦ Unit {0} ] in
    subst P same tt

-- ---- sessions

pub found-named : (name : Name) (sessions : List Session) (session : Session) → session_named name sessions ≡ Some session → name_of session ≡ name
found-named name [] session is = absurd (none-some session is)
found-named name (first ∷ sessions) session is =
    elim (cases_Bool (is_named name first)) [
      | inl holds ↦
          let first_is : first ≡ session = some-same first session (sym (cond-true (is_named name first) (Some first) (session_named name sessions) holds) ∙ is) in
          ap name_of (sym first_is) ∙ sym (same-names name (name_of first) holds)
      | inr fails ↦ found-named name sessions session (sym (cond-false (is_named name first) (Some first) (session_named name sessions) fails) ∙ is)
    ]

pub lost-name : (name : Name) (sessions : List Session) → session_named name (without_session name sessions) ≡ None
lost-name name [] = refl
lost-name name (first ∷ sessions) =
    elim (cases_Bool (is_named name first)) [
      | inl holds ↦ rw holds (lost-name name sessions)
      | inr fails ↦ rw (fails, fails) (lost-name name sessions)
    ]

pub lost-other : (name other : Name) (sessions : List Session) → other ≢ name → session_named other (without_session name sessions) ≡ session_named other sessions
lost-other name other [] apart = refl
lost-other name other (first ∷ sessions) apart =
    elim (cases_Bool (is_named name first)) [
      | inl holds ↦
          let is = same-names name (name_of first) holds in
          let off : is_named other first ≡ false = apart-names other (name_of first) (λ same. apart (same ∙ sym is)) in
          rw (holds, off) (lost-other name other sessions apart)
      | inr fails ↦
          rw fails (ap (λ (found : Option Session). cond (is_named other first) (Some first) found) (lost-other name other sessions apart))
    ]
