-- What was served, with one more.
use Rattle.std.proofs.Common.{◌≡◌, ◌∙◌, List, [], ◌∷◌, ◌++◌, refl, sym, ap}
use Rattle.regs_service.specs.Served.{Step, Ran, state_after, replies_to, requests_of, replies_of, Served}

module _ {S : Type 0} (step : Step S) where
  pub after_one : (state : S) (runs : List Ran) (ran : Ran)
      → state_after step state (requests_of (runs ++ ran ∷ [])) ≡ (step (state_after step state (requests_of runs)) ran.request).1
  after_one state [] ran = refl
  after_one state (first ∷ runs) ran = after_one (step state first.request).1 runs ran

  replies_and_one : (state : S) (runs : List Ran) (ran : Ran)
      → replies_to step state (requests_of (runs ++ ran ∷ [])) ≡ replies_to step state (requests_of runs) ++ (step (state_after step state (requests_of runs)) ran.request).0 ∷ []
  replies_and_one state [] ran = refl
  replies_and_one state (first ∷ runs) ran = ap (λ replies. (step state first.request).0 ∷ replies) (replies_and_one (step state first.request).1 runs ran)

  with_one : (runs : List Ran) (ran : Ran) → replies_of (runs ++ ran ∷ []) ≡ replies_of runs ++ ran.reply ∷ []
  with_one [] ran = refl
  with_one (first ∷ runs) ran = ap (λ replies. first.reply ∷ replies) (with_one runs ran)

  pub served_and_one : (state : S) (runs : List Ran) (ran : Ran) → Served step state runs
      → ran.reply ≡ (step (state_after step state (requests_of runs)) ran.request).0 → Served step state (runs ++ ran ∷ [])
  served_and_one state runs ran served replied =
      with_one runs ran ∙ ap (λ replies. replies ++ ran.reply ∷ []) served
      ∙ ap (λ reply. replies_to step state (requests_of runs) ++ reply ∷ []) replied ∙ sym (replies_and_one state runs ran)
