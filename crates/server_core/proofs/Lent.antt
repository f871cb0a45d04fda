-- A session that is lent is the one at its place.
use Rattle.std.proofs.Common.{◌≡◌, ◌∙◌, ℕ, ◌<◌, List, length, get_or, ap}
use Rattle.std.proofs.lemmas.List.{get_or_default}
use Rattle.server_session.specs.declared.session.SessionState.{SessionState}

pub lent-at : (items seen : List SessionState) (place : ℕ) (lent d : SessionState) → items ≡ seen → lent ≡ get_or items place lent → place < length items
    → lent ≡ get_or seen place d
lent-at items seen place lent d same value within =
    value ∙ (get_or_default items place lent d within ∙ ap (λ (standings : List SessionState). get_or standings place d) same)
