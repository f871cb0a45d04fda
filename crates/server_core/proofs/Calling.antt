-- The kept replies that messages may call for, one message after the other.
use Rattle.std.proofs.Common.{◌≡◌, ◌∙◌, ◌<◌, ◌+◌, ℕ, List, length, get_or, take, ap, sym, inl, inr}
use Rattle.std.specs.Prelude.{◌||◌}
use Rattle.std.proofs.lemmas.Bool.{or_cases, or_left, or_right}
use Rattle.std.proofs.lemmas.List.Folds.{list_any_more}
use Rattle.server_dispatch.specs.declared.dues.Due.{Due}
use Rattle.server_dispatch.specs.Action.{asked_by, may_call}
use Rattle.server_session.specs.Unsaid.{CallsFor, is_among, is_to}
use Rattle.server_core.specs.SettlingAll.{calls_by}

-- with one message more it is what that one may call for, or what the others did
pub calls-on : (dues : List Due) (i : ℕ) (due : Due) → i < length dues → due ≡ get_or dues i due
    → CallsFor (calls_by (take (i + 1) dues)) (λ kept. is_among (asked_by due.action) kept || (is_to due.number kept || calls_by (take i dues) kept))
calls-on dues i due within is kept there =
    let asked = is_among (asked_by due.action) kept in
    let came = is_to due.number kept in
    let before = calls_by (take i dues) kept in
    elim (or_cases before (may_call (get_or dues i due) kept) (sym (list_any_more (λ (one : Due). may_call one kept) dues i due within) ∙ there)) [
      | inl earlier ↦ or_right asked (came || before) (or_right came before earlier)
      | inr here ↦
          elim (or_cases asked came (ap (λ (one : Due). may_call one kept) is ∙ here)) [
            | inl by_number ↦ or_left asked (came || before) by_number
            | inr by_call ↦ or_right asked (came || before) (or_left came before by_call)
          ]
    ]
