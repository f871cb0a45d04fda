-- The first packet that wasn't given.
use Rattle.std.proofs.Common.{◌≡◌, ◌∙◌, ◌+◌, ◌<◌, ◌≤◌, inl, inr, ℕ, zero, suc, Bool, true, false, Some, None, List, get_or, refl, ap, arith}
use Rattle.std.proofs.lemmas.Bool.{cases_lt}
use Rattle.sim_load.specs.Given.{Notes}
use Rattle.world_rules.specs.Load.{first_ungiven}

pub found : (number n first : ℕ) (flags : List Bool) (given : List ℕ) → Notes flags given → number ≤ first → first < number + n
    → ((k : ℕ) → number ≤ k → k < first → get_or flags k false ≡ true) → get_or flags first false ≡ false → first_ungiven number n given ≡ Some first
found number zero first flags given notes least less below none = absurd (omega (arith, least, less))
found number (suc n) first flags given notes least less below none = elim (cases_lt number first) [
  | inl before ↦ rw (notes number ∙ below number (omega arith) before)
      (found (suc number) n first flags given notes (omega (arith, before)) (omega (arith, less)) (λ k low high. below k (omega (arith, low)) high) none)
  | inr behind ↦ let is : number ≡ first = omega (arith, behind, least) in rw (notes number ∙ ap (λ k. get_or flags k false) is ∙ none) (ap Some is)
]

pub absent : (number n first : ℕ) (flags : List Bool) (given : List ℕ) → Notes flags given → number + n ≤ first
    → ((k : ℕ) → number ≤ k → k < first → get_or flags k false ≡ true) → first_ungiven number n given ≡ None
absent number zero first flags given notes most below = refl
absent number (suc n) first flags given notes most below = rw (notes number ∙ below number (omega arith) (omega (arith, most)))
    (absent (suc number) n first flags given notes (omega (arith, most)) (λ k low high. below k (omega (arith, low)) high))
