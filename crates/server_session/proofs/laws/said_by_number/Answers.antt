use Rattle.std.proofs.Common.{◌≡◌, ◌∙◌, ℕ, Bool, true, false, List, [], ◌∷◌, sym, refl, inl, inr}
use Rattle.std.specs.Prelude.{◌==◌, ◌&&◌}
use Rattle.std.specs.List.{list_any}
use Rattle.std.proofs.lemmas.Bool.{cases_Bool, eqb-true, eq-eqb, and_parts, and_from, false≢true}
use Rattle.server_rules.specs.Event.{Owed}
use Rattle.server_rules.specs.Server.{Name, is_same}
use Rattle.server_rules.specs.Sending.{messages_by}
use Rattle.server_output.specs.Dues.{has_number}
use Rattle.server_session.proofs.laws.said_by_number.Goals as goal

abbrev by_both : ℕ → Name → Owed → Bool
by_both number name owed = is_same owed.name name && (owed.message.number == number)

turned : (one other : Name) → is_same one other ≡ true → is_same other one ≡ true
turned one other is =
    let parts = and_parts _ _ is in
    and_from _ _ (eq-eqb other.key one.key (sym (eqb-true one.key other.key parts.0))) (eq-eqb other.session one.session (sym (eqb-true one.session other.session parts.1)))

apart : (one other : Name) → is_same one other ≡ false → is_same other one ≡ false
apart one other is =
    elim (cases_Bool (is_same other one)) [
      | inl same ↦ absurd (false≢true (sym is ∙ turned other one same))
      | inr not_same ↦ not_same
    ]

by-number : (number : ℕ) (name : Name) (owed : List Owed) → list_any (by_both number name) owed ≡ has_number number (messages_by name owed)
by-number number name [] = refl
by-number number name (one ∷ owed) =
    elim (cases_Bool (is_same name one.name)) [
      | inl same ↦ rw (same, turned name one.name same, by-number number name owed) refl
      | inr not_same ↦ rw (not_same, apart name one.name not_same, by-number number name owed) refl
    ]

pub returns : goal.returns
returns g c = λ number speaker. by-number number (record { key = speaker.session.key; session = speaker.session.number }) speaker.owed
