-- Lemmas on what a clock with a list gives.
use Rattle.std.proofs.Common.{◌≡◌, ℕ, zero, suc, ◌+◌, ◌-◌, min, List, [], ◌∷◌, ◌++◌, length, length-append, slice_index, arith, refl}
use Rattle.mt_edge.specs.Clocks.{first_given}

-- the moment that comes next
pub one_more_given : (moments : List ℕ) (n : ℕ) → first_given moments (n + 1) ≡ first_given moments n ++ slice_index moments (min n (length moments - 1)) ∷ []
one_more_given moments n =
    let e : n + 1 ≡ suc n = omega arith in
    rw e refl

-- it gives as many as it is asked for
pub count_of_given : (moments : List ℕ) (n : ℕ) → length (first_given moments n) ≡ n
count_of_given moments zero = refl
count_of_given moments (suc n) =
    omega (arith, length-append (first_given moments n) (slice_index moments (min n (length moments - 1)) ∷ []), count_of_given moments n)
