-- Lists that are gone through by places.
use Rattle.std.proofs.Common.{◌≡◌, ◌∙◌, ℕ, zero, suc, ◌+◌, ◌<◌, ◌≤◌, List, [], ◌∷◌, ◌++◌, Some, None, length, ap, sym, arith}
use Rattle.std.specs.Prelude.{slice_get, take}
use Rattle.std.proofs.lemmas.List.{take_all}
use Rattle.client_core.proofs.CallLemmas.{value}

-- one more
take_next : {X : Type 0} (xs : List X) (k : ℕ) (x : X) → Some x ≡ slice_get xs k → take (suc k) xs ≡ take k xs ++ x ∷ []
take_next [] k x is = grind (arith, is)
take_next (y ∷ xs) zero x is = ap (λ own. value x own ∷ []) (sym is)
take_next (y ∷ xs) (suc k) x is = ap (λ ys. y ∷ ys) (take_next xs k x is)

pub take_get : {X : Type 0} (xs : List X) (k : ℕ) (x : X) → Some x ≡ slice_get xs k → take (k + 1) xs ≡ take k xs ++ x ∷ []
take_get xs k x is = let more : k + 1 ≡ suc k = omega arith in ap (λ n. take n xs) more ∙ take_next xs k x is

-- none is at a place behind the last one
pub get_none : {X : Type 0} (xs : List X) (k : ℕ) → None ≡ slice_get xs k → length xs ≤ k
get_none [] k is = omega arith
get_none (x ∷ xs) zero is = grind (arith, is)
get_none (x ∷ xs) (suc k) is = omega (arith, get_none xs k is)

-- all are taken where there are no more
pub take_none : {X : Type 0} (xs : List X) (k n : ℕ) → None ≡ slice_get xs k → k ≤ n → take k xs ≡ take n xs
take_none xs k n is le = let few = get_none xs k is in take_all k xs few ∙ sym (take_all n xs (omega (arith, few, le)))

-- one is at a place before the end
pub get_some : {X : Type 0} (xs : List X) (k : ℕ) (x : X) → Some x ≡ slice_get xs k → k < length xs
get_some [] k x is = grind (arith, is)
get_some (y ∷ xs) zero x is = omega arith
get_some (y ∷ xs) (suc k) x is = omega (arith, get_some xs k x is)

pub take_few : {X : Type 0} (n : ℕ) (xs : List X) → length (take n xs) ≤ n
take_few zero xs = omega arith
take_few (suc n) [] = omega arith
take_few (suc n) (x ∷ xs) = omega (arith, take_few n xs)
