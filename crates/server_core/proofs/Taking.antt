-- A session that is taken out by its name.
use Rattle.std.proofs.Common.{◌≡◌, ◌∙◌, suc, ◌<◌, true, List, [], ◌∷◌, length, remove, ap, sym, refl, arith, inl, inr, one-add}
use Rattle.std.specs.List.{All, position_or_len}
use Rattle.std.proofs.lemmas.Bool.{cases_Bool}
use Rattle.std.proofs.lemmas.List.Elements.{All-head, All-tail}
use Rattle.server_rules.specs.Server.{Name}
use Rattle.server_session.specs.declared.session.SessionState.{SessionState}
use Rattle.server_session.specs.Names.{name_kept}
use Rattle.server_core.specs.Sessions.{AreApart, HaveOtherNames, is_kept_as, without_kept}
use Rattle.server_core.proofs.Lists.{pairs-head, pairs-tail}
use Rattle.server_core.proofs.Names.{same-names}

-- the others of one that has the name have others
others-stay : (name : Name) (one : SessionState) (standings : List SessionState) → is_kept_as name one ≡ true → All (HaveOtherNames one) standings
    → without_kept name standings ≡ standings
others-stay name one [] is apart = refl
others-stay name one (standing ∷ standings) is apart =
    let R : SessionState → Type 0 = HaveOtherNames one in
    elim (cases_Bool (is_kept_as name standing)) [
      | inl also ↦ absurd (All-head R standing standings apart (sym (same-names name (name_kept one) is) ∙ same-names name (name_kept standing) also))
      | inr not_so ↦ rw not_so (ap (λ (rest : List SessionState). standing ∷ rest) (others-stay name one standings is (All-tail R standing standings apart)))
    ]

pub one-out : (name : Name) (standings : List SessionState) → AreApart standings → position_or_len (is_kept_as name) standings < length standings
    → without_kept name standings ≡ remove standings (position_or_len (is_kept_as name) standings)
one-out name [] apart within = absurd (omega arith)
one-out name (standing ∷ standings) apart within =
    let test = is_kept_as name in
    elim (cases_Bool (test standing)) [
      | inl is ↦ rw is (others-stay name standing standings is (pairs-head HaveOtherNames standing standings apart))
      | inr not_so ↦
          let later : position_or_len test (standing ∷ standings) ≡ suc (position_or_len test standings) = rw (not_so, one-add) refl in
          let rest = one-out name standings (pairs-tail HaveOtherNames standing standings apart) (omega arith) in
          rw (later, not_so) (ap (λ (others : List SessionState). standing ∷ others) rest)
    ]
