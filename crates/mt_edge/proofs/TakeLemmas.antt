-- A lemma on fronts of lists.
use Rattle.std.proofs.Common.{◌≡◌, ◌+◌, ℕ, zero, suc, List, [], ◌∷◌, ◌++◌, take, drop, arith, refl, ap}
use Rattle.std.proofs.lemmas.Grind.{common_steps}

-- a front, and the front of what comes behind it
pub take_more : (xs : List ℕ) (n m : ℕ) → take (n + m) xs ≡ take n xs ++ take m (drop n xs)
take_more xs zero m = let e : 0 + m ≡ m = omega arith in rw e refl
take_more [] (suc n) m = let e : suc n + m ≡ suc (n + m) = omega arith in rw e (grind (arith, common_steps))
take_more (x ∷ xs) (suc n) m = let e : suc n + m ≡ suc (n + m) = omega arith in rw e (ap (λ l. x ∷ l) (take_more xs n m))
