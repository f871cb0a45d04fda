-- A test over the numbers below a limit, and the rule at each of them.
use Rattle.std.proofs.Common.{◌≡◌, ℕ, zero, suc, ◌<◌, inl, inr, Bool, true, false, refl, arith}
use Rattle.std.specs.Prelude.{◌&&◌}
use Rattle.std.proofs.lemmas.Bool.{cases_lt}

-- the test holds of each number below n
unfoldable pub passes_below : (ℕ → Bool) → ℕ → Bool
passes_below p zero = true
passes_below p (suc n) = p n && passes_below p n

first_true : (s t : Bool) → (s && t) ≡ true → s ≡ true
first_true true t h = refl
first_true false t h = h

rest_true : (s t : Bool) → (s && t) ≡ true → t ≡ true
rest_true true t h = h
rest_true false t h = absurd (cc)

pub passes_at : (p : ℕ → Bool) (n : ℕ) → passes_below p n ≡ true → (k : ℕ) → k < n → p k ≡ true
unfolding passes_below
passes_at p zero h k lt = absurd (omega arith)
passes_at p (suc n) h k lt =
    elim (cases_lt k n) [
      | inl below ↦ passes_at p n (rest_true (p n) (passes_below p n) h) k below
      | inr above ↦
          let last : k ≡ n = omega arith in
          rw last (first_true (p n) (passes_below p n) h)
    ]

-- what holds of 0 and 1 holds of each bit
pub by_bit : (P : ℕ → Type 0) → P 0 → P 1 → (b : ℕ) → b < 2 → P b
by_bit P p q zero h = p
by_bit P p q (suc zero) h = q
by_bit P p q (suc (suc n)) h = absurd (omega arith)
