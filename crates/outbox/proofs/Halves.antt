-- A list of two parts, cut at the length of the first.
use Rattle.std.specs.Prelude.{ℕ, List, ◌≡◌, ◌+◌, ◌++◌, length, take, drop}
use Rattle.std.proofs.Common.{◌∙◌, sym, ap}
use Rattle.std.proofs.Math.Seq.{take-append_seam, drop-append_seam}

pub first_of : (n : ℕ) (xs ys : List ℕ) → length xs ≡ n → xs ≡ take n (xs ++ ys)
first_of n xs ys count = sym (take-append_seam xs ys) ∙ ap (λ k. take k (xs ++ ys)) count

pub second_of : (n : ℕ) (xs ys : List ℕ) → length xs ≡ n → ys ≡ drop n (xs ++ ys)
second_of n xs ys count = sym (drop-append_seam xs ys) ∙ ap (λ k. drop k (xs ++ ys)) count
