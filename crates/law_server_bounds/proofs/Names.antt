-- Sessions by their names.
use Rattle.std.proofs.Common.{◌≡◌, ◌≢◌, ◌∙◌, ℕ, true, false, cond, Option, Some, None, List, [], ◌∷◌, ap, sym, subst, refl, inl, inr}
use Rattle.std.specs.Prelude.{◌⊎◌}
use Rattle.std.proofs.lemmas.Bool.{cases_Bool, and_parts, and_from, eqb-true, eq-eqb, false≢true}
use Rattle.server_rules.specs.Server.{Name, Session, is_same, is_named, name_of, session_named, without_session}
use Rattle.law_server_bounds.proofs.Lists.{find-holds, none-some}

abbrev pub named : ℕ → ℕ → Name
named key session = record { key = key; session = session }

pub same-names : (one other : Name) → is_same one other ≡ true → one ≡ other
same-names one other is =
    let parts = and_parts _ _ is in
    ap (λ (k : ℕ). named k one.session) (eqb-true one.key other.key parts.0) ∙ ap (λ (s : ℕ). named other.key s) (eqb-true one.session other.session parts.1)

pub names-same : (one other : Name) → one ≡ other → is_same one other ≡ true
names-same one other is =
    and_from _ _ (eq-eqb one.key other.key (ap (λ (name : Name). name.key) is)) (eq-eqb one.session other.session (ap (λ (name : Name). name.session) is))

pub cases_name : (one other : Name) → (one ≡ other) ⊎ (one ≢ other)
cases_name one other =
    elim (cases_Bool (is_same one other)) [
      | inl is ↦ inl (same-names one other is)
      | inr apart ↦ inr (λ is. false≢true (sym apart ∙ names-same one other is))
    ]

pub found-named : (name : Name) (sessions : List Session) (session : Session) → session_named name sessions ≡ Some session → name_of session ≡ name
found-named name sessions session is = sym (same-names name (name_of session) (find-holds (is_named name) sessions session is).1)

pub lost-none : (name : Name) (sessions : List Session) → session_named name (without_session name sessions) ≡ None
lost-none name [] = refl
lost-none name (first ∷ sessions) =
    elim (cases_Bool (is_named name first)) [
      | inl holds ↦ rw holds (lost-none name sessions)
      | inr fails ↦ rw (fails, fails) (lost-none name sessions)
    ]

-- where one of another name is lost, the one of this name stands as before
pub lost-named : (lost name : Name) (sessions : List Session) → name ≢ lost → session_named name (without_session lost sessions) ≡ session_named name sessions
lost-named lost name [] apart = refl
lost-named lost name (first ∷ sessions) apart =
    let rest = lost-named lost name sessions apart in
    elim (cases_Bool (is_named lost first)) [
      | inl holds ↦
          let off : is_named name first ≡ false =
          elim (cases_Bool (is_named name first)) [
            | inl own ↦ absurd (apart (same-names name (name_of first) own ∙ sym (same-names lost (name_of first) holds)))
            | inr fails ↦ fails
          ] in
          rw (holds, off) rest
      | inr fails ↦ rw fails (ap (λ (found : Option Session). cond (is_named name first) (Some first) found) rest)
    ]
