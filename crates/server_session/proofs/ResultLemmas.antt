-- Kept replies that are found.
use Rattle.std.proofs.Common.{◌≡◌, Bool, Option, Some, [], ◌∷◌, subst, sym, inl, inr}
use Rattle.std.specs.List.{All, find}
use Rattle.std.specs.Option.{IfSome}
use Rattle.std.proofs.lemmas.Bool.{cases_Bool, cond-true, cond-false}
use Rattle.std.proofs.lemmas.List.Elements.{All-head, All-tail}
use Rattle.outbox.specs.declared.kept.Kept.{Kept}
use Rattle.outbox.specs.Replies.{Replies}
use Rattle.server_session.specs.Kept.{IsResult}

-- a kept reply that is found is a result
pub found-result : (test : Kept → Bool) (replies : Replies) → All IsResult replies → IfSome (find test replies) IsResult
found-result test [] all = tt
found-result test (one ∷ replies) all =
    elim (cases_Bool (test one)) [
      | inl here ↦ subst (λ (found : Option Kept). IfSome found IsResult) (sym (cond-true (test one) (Some one) (find test replies) here)) (All-head IsResult one replies all)
      | inr later ↦
          subst (λ (found : Option Kept). IfSome found IsResult) (sym (cond-false (test one) (Some one) (find test replies) later))
          (found-result test replies (All-tail IsResult one replies all))
    ]

pub is-result : (test : Kept → Bool) (replies : Replies) (kept : Kept) → find test replies ≡ Some kept → All IsResult replies → IsResult kept
is-result test replies kept found all = subst (λ (one : Option Kept). IfSome one IsResult) found (found-result test replies all)
