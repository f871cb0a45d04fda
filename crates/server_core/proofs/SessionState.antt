-- What is kept of the sessions of a server stands for them, one for one.
use Rattle.std.proofs.Common.{◌≡◌, ℕ, List, [], ◌∷◌, ap, refl, inl, inr}
use Rattle.std.specs.Prelude.{is_some}
use Rattle.std.proofs.lemmas.Bool.{cases_Bool}
use Rattle.server_rules.specs.Server.{Name, Session, is_same, is_named, name_of, session_named, without_session}
use Rattle.server_session.specs.declared.session.SessionState.{SessionState}
use Rattle.server_session.specs.SessionState.{Stands}
use Rattle.server_session.specs.Names.{name_kept}
use Rattle.server_core.specs.Sessions.{AreKept, is_kept_as, kept_as, without_kept}

-- what the crate below says of the names of sessions
abbrev pub HasItsName : Type 0
HasItsName = (moment : ℕ) (standing : SessionState) (session : Session) → Stands moment standing session → name_kept standing ≡ name_of session

pub same-found : HasItsName → (moment : ℕ) (name : Name) (standings : List SessionState) (sessions : List Session) → AreKept moment standings sessions
    → is_some (kept_as name standings) ≡ is_some (session_named name sessions)
same-found names moment name [] [] are = refl
same-found names moment name [] (session ∷ sessions) are = absurd are
same-found names moment name (standing ∷ standings) [] are = absurd are
same-found names moment name (standing ∷ standings) (session ∷ sessions) are =
    let same : is_kept_as name standing ≡ is_named name session = ap (is_same name) (names moment standing session are.0) in
    elim (cases_Bool (is_named name session)) [
      | inl is ↦ rw (same, is) refl
      | inr not_so ↦ rw (same, not_so) (same-found names moment name standings sessions are.1)
    ]

pub others-kept : HasItsName → (moment : ℕ) (name : Name) (standings : List SessionState) (sessions : List Session) → AreKept moment standings sessions
    → AreKept moment (without_kept name standings) (without_session name sessions)
others-kept names moment name [] [] are = are
others-kept names moment name [] (session ∷ sessions) are = absurd are
others-kept names moment name (standing ∷ standings) [] are = absurd are
others-kept names moment name (standing ∷ standings) (session ∷ sessions) are =
    let same : is_kept_as name standing ≡ is_named name session = ap (is_same name) (names moment standing session are.0) in
    let rest = others-kept names moment name standings sessions are.1 in
    elim (cases_Bool (is_named name session)) [
      | inl is ↦ rw (same, is) rest
      | inr not_so ↦ rw (same, not_so) (are.0, rest)
    ]
