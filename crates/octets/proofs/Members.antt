-- Each member of a list is below a bound: of parts of it, and of lists made of others.
use Rattle.std.proofs.Common.{ℕ, zero, suc, ◌<◌, ◌^◌, Bool, true, false, cond, List, [], ◌∷◌, ◌++◌, arith}
use Rattle.std.specs.List.{filter}
use Rattle.octets.specs.Bytes.{IsBytes, AreLongs}

pub bytes_front : (xs ys : List ℕ) → IsBytes (xs ++ ys) → IsBytes xs
bytes_front [] ys fits i = omega arith
bytes_front (x ∷ xs) ys fits zero = fits 0
bytes_front (x ∷ xs) ys fits (suc i) = bytes_front xs ys (λ j. fits (suc j)) i

pub bytes_back : (xs ys : List ℕ) → IsBytes (xs ++ ys) → IsBytes ys
bytes_back [] ys fits i = fits i
bytes_back (x ∷ xs) ys fits i = bytes_back xs ys (λ j. fits (suc j)) i

longs_cond : (keeps : Bool) (x : ℕ) (xs : List ℕ) → x < 2 ^ 64 → AreLongs xs → AreLongs (cond keeps (x ∷ xs) xs)
longs_cond true x xs here others zero = here
longs_cond true x xs here others (suc i) = others i
longs_cond false x xs here others i = others i

-- what passes a test
pub longs_kept : (test : ℕ → Bool) (xs : List ℕ) → AreLongs xs → AreLongs (filter test xs)
longs_kept test [] fits i = omega arith
longs_kept test (x ∷ xs) fits i = longs_cond (test x) x (filter test xs) (fits 0) (longs_kept test xs (λ j. fits (suc j))) i
