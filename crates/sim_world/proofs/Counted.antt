-- A member whose number is among those that are counted is there.
use Rattle.std.proofs.Common.{◌≡◌, ◌<◌, ◌≤◌, ℕ, zero, suc, List, [], ◌∷◌, Some, None, length, arith}
use Rattle.std.specs.List.{slice_get}
use Rattle.world_rules.specs.World.{counted}

there : {X : Type 0} (place : ℕ) (xs : List X) → slice_get xs place ≡ None → place < length xs → ⊥
there place [] none below = omega (arith, below)
there zero (x ∷ xs) none below = let no : Some x ≡ None = none in cc
there (suc place) (x ∷ xs) none below = there place xs none (omega (arith, below))

pub counted_there : {X : Type 0} (number : ℕ) (xs : List X) → counted number xs ≡ None → 0 < number → number ≤ length xs → ⊥
counted_there zero xs none first within = omega (arith, first)
counted_there (suc place) xs none first within = there place xs none (omega (arith, within))
