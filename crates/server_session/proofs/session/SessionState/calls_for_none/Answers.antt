use Rattle.std.proofs.Common.{◌≡◌, ◌+◌, ℕ, Bool, false, List, [], ◌∷◌, length, refl, arith}
use Rattle.std.specs.Prelude.{sum_by}
use Rattle.std.proofs.lemmas.List.Sums.{sum_by-cons}
use Rattle.outbox.specs.declared.kept.Kept.{Kept}
use Rattle.outbox.specs.Replies.{Replies}
use Rattle.server_session.specs.Unsaid.{called_weight}
use Rattle.server_session.proofs.session.SessionState.calls_for_none.Goals as goal

nothing : (weight : Kept → ℕ) (replies : Replies) → sum_by (called_weight (λ kept. false) weight) replies ≡ 0
nothing weight [] = refl
nothing weight (kept ∷ replies) =
    let first : sum_by (called_weight (λ kept. false) weight) (kept ∷ replies) ≡ 0 + sum_by (called_weight (λ kept. false) weight) replies =
    sum_by-cons (called_weight (λ kept. false) weight) kept replies in
    omega (arith, first, nothing weight replies)

pub returns : goal.returns
returns c =
    let replies = c.args.self.now.outbox.replies in
    let count = nothing (λ kept. 1) replies in
    let bytes = nothing (λ kept. length kept.body) replies in
    record { count = omega arith; bytes = omega arith; few = omega arith; short = omega arith }
