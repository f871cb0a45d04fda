-- Sums of exclusive ors.
use Rattle.std.proofs.Common.{◌≡◌, ℕ, refl, sym, ap, ◌∙◌}
use Rattle.std.specs.Prelude.{bit_xor}
use Rattle.std.specs.Int.Bits.{xor_assoc, xor_self, xor_zero_r}
use Rattle.std.proofs.lemmas.Nat.{xor_comm}

-- the inner two of four change places
pub xor_swap : (a b c d : ℕ) → bit_xor (bit_xor a b) (bit_xor c d) ≡ bit_xor (bit_xor a c) (bit_xor b d)
xor_swap a b c d =
    xor_assoc a b (bit_xor c d)
    ∙ ap (λ (x : ℕ). bit_xor a x) (sym (xor_assoc b c d) ∙ ap (λ (x : ℕ). bit_xor x d) (xor_comm b c) ∙ xor_assoc c b d)
    ∙ sym (xor_assoc a c (bit_xor b d))

-- what is added twice is gone
pub xor_twice : (a b : ℕ) → bit_xor (bit_xor a b) b ≡ a
xor_twice a b = rw (xor_assoc a b b, xor_self b, xor_zero_r a) refl

-- a sum of four
abbrev pub sum4 : ℕ → ℕ → ℕ → ℕ → ℕ
sum4 p q r s = bit_xor (bit_xor (bit_xor p q) r) s

pub sum4_rotated : (p q r s : ℕ) → sum4 p q r s ≡ sum4 s p q r
sum4_rotated p q r s =
    xor_comm (bit_xor (bit_xor p q) r) s
    ∙ sym (xor_assoc s (bit_xor p q) r)
    ∙ ap (λ (x : ℕ). bit_xor x r) (sym (xor_assoc s p q))

pub sum4_pair : (p q r s t u v w : ℕ)
    → bit_xor (sum4 p q r s) (sum4 t u v w) ≡ sum4 (bit_xor p t) (bit_xor q u) (bit_xor r v) (bit_xor s w)
sum4_pair p q r s t u v w =
    xor_swap (bit_xor (bit_xor p q) r) s (bit_xor (bit_xor t u) v) w
    ∙ ap (λ (x : ℕ). bit_xor x (bit_xor s w)) (xor_swap (bit_xor p q) r (bit_xor t u) v
    ∙ ap (λ (x : ℕ). bit_xor x (bit_xor r v)) (xor_swap p q t u))

-- a sum of rows is a sum of columns
pub sum4_transposed : (p0 p1 p2 p3 q0 q1 q2 q3 r0 r1 r2 r3 s0 s1 s2 s3 : ℕ)
    → sum4 (sum4 p0 p1 p2 p3) (sum4 q0 q1 q2 q3) (sum4 r0 r1 r2 r3) (sum4 s0 s1 s2 s3)
    ≡ sum4 (sum4 p0 q0 r0 s0) (sum4 p1 q1 r1 s1) (sum4 p2 q2 r2 s2) (sum4 p3 q3 r3 s3)
sum4_transposed p0 p1 p2 p3 q0 q1 q2 q3 r0 r1 r2 r3 s0 s1 s2 s3 =
    ap (λ (x : ℕ). bit_xor (bit_xor x (sum4 r0 r1 r2 r3)) (sum4 s0 s1 s2 s3)) (sum4_pair p0 p1 p2 p3 q0 q1 q2 q3)
    ∙ ap (λ (x : ℕ). bit_xor x (sum4 s0 s1 s2 s3))
    (sum4_pair (bit_xor p0 q0) (bit_xor p1 q1) (bit_xor p2 q2) (bit_xor p3 q3) r0 r1 r2 r3)
    ∙ sum4_pair (bit_xor (bit_xor p0 q0) r0) (bit_xor (bit_xor p1 q1) r1) (bit_xor (bit_xor p2 q2) r2) (bit_xor (bit_xor p3 q3) r3) s0 s1 s2 s3

pub sum4_zeros : (a : ℕ) → sum4 a 0 0 0 ≡ a
sum4_zeros a = rw (xor_zero_r a, xor_zero_r a, xor_zero_r a) refl
