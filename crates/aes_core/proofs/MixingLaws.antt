-- The combinations of MixColumns and of its inverse: each undoes the other.
use Rattle.std.proofs.Common.{◌≡◌, ℕ, ◌<◌, true, refl, ap, ap₂, ◌∙◌, [], ◌∷◌}
use Rattle.std.specs.Prelude.{bit_xor, ◌==◌}
use Rattle.std.proofs.lemmas.Bool.{eqb-true}
use Rattle.aes_core.specs.Field.{xtime, product_bits, product}
use Rattle.aes_core.specs.Cipher.{combination, column}
use Rattle.aes_core.proofs.TableTests.{passes_below, passes_at}
use Rattle.aes_core.proofs.XorLaws.{sum4, sum4_rotated, sum4_transposed, sum4_zeros}
use Rattle.aes_core.proofs.FieldLaws.{product-sum4}

-- ---- each undoes the other

-- the sum of the products of one byte, first with the k and then with the b
abbrev gathered : ℕ → ℕ → ℕ → ℕ → ℕ → ℕ → ℕ → ℕ → ℕ → ℕ
gathered b0 b1 b2 b3 k0 k1 k2 k3 x =
    sum4 (product b0 (product k0 x)) (product b1 (product k1 x)) (product b2 (product k2 x)) (product b3 (product k3 x))

-- the coefficients b undo the coefficients a, at each byte
record Undoes (b0 b1 b2 b3 a0 a1 a2 a3 : ℕ) : Type 0 where
  own : (x : ℕ) → x < 256 → gathered b0 b1 b2 b3 a0 a3 a2 a1 x ≡ x
  next : (x : ℕ) → x < 256 → gathered b0 b1 b2 b3 a1 a0 a3 a2 x ≡ 0
  across : (x : ℕ) → x < 256 → gathered b0 b1 b2 b3 a2 a1 a0 a3 x ≡ 0
  before : (x : ℕ) → x < 256 → gathered b0 b1 b2 b3 a3 a2 a1 a0 x ≡ 0

aligned : (b0 b1 b2 b3 a0 a1 a2 a3 x0 x1 x2 x3 : ℕ)
    → combination b0 b1 b2 b3 (combination a0 a1 a2 a3 x0 x1 x2 x3) (combination a0 a1 a2 a3 x1 x2 x3 x0)
    (combination a0 a1 a2 a3 x2 x3 x0 x1) (combination a0 a1 a2 a3 x3 x0 x1 x2)
    ≡ sum4 (gathered b0 b1 b2 b3 a0 a3 a2 a1 x0) (gathered b0 b1 b2 b3 a1 a0 a3 a2 x1)
    (gathered b0 b1 b2 b3 a2 a1 a0 a3 x2) (gathered b0 b1 b2 b3 a3 a2 a1 a0 x3)
unfolding combination
aligned b0 b1 b2 b3 a0 a1 a2 a3 x0 x1 x2 x3 =
    let first = product-sum4 b0 (product a0 x0) (product a1 x1) (product a2 x2) (product a3 x3) in
    let second = ap (product b1) (sum4_rotated (product a0 x1) (product a1 x2) (product a2 x3) (product a3 x0))
    ∙ product-sum4 b1 (product a3 x0) (product a0 x1) (product a1 x2) (product a2 x3) in
    let third = ap (product b2) (sum4_rotated (product a0 x2) (product a1 x3) (product a2 x0) (product a3 x1)
    ∙ sum4_rotated (product a3 x1) (product a0 x2) (product a1 x3) (product a2 x0))
    ∙ product-sum4 b2 (product a2 x0) (product a3 x1) (product a0 x2) (product a1 x3) in
    let fourth = ap (product b3) (sum4_rotated (product a0 x3) (product a1 x0) (product a2 x1) (product a3 x2)
    ∙ sum4_rotated (product a3 x2) (product a0 x3) (product a1 x0) (product a2 x1)
    ∙ sum4_rotated (product a2 x1) (product a3 x2) (product a0 x3) (product a1 x0))
    ∙ product-sum4 b3 (product a1 x0) (product a2 x1) (product a3 x2) (product a0 x3) in
    ap₂ bit_xor (ap₂ bit_xor (ap₂ bit_xor first second) third) fourth
    ∙ sum4_transposed
    (product b0 (product a0 x0)) (product b0 (product a1 x1)) (product b0 (product a2 x2)) (product b0 (product a3 x3))
    (product b1 (product a3 x0)) (product b1 (product a0 x1)) (product b1 (product a1 x2)) (product b1 (product a2 x3))
    (product b2 (product a2 x0)) (product b2 (product a3 x1)) (product b2 (product a0 x2)) (product b2 (product a1 x3))
    (product b3 (product a1 x0)) (product b3 (product a2 x1)) (product b3 (product a3 x2)) (product b3 (product a0 x3))

undone : (b0 b1 b2 b3 a0 a1 a2 a3 : ℕ) → Undoes b0 b1 b2 b3 a0 a1 a2 a3
    → (x0 x1 x2 x3 : ℕ) → x0 < 256 → x1 < 256 → x2 < 256 → x3 < 256
    → combination b0 b1 b2 b3 (combination a0 a1 a2 a3 x0 x1 x2 x3) (combination a0 a1 a2 a3 x1 x2 x3 x0)
    (combination a0 a1 a2 a3 x2 x3 x0 x1) (combination a0 a1 a2 a3 x3 x0 x1 x2) ≡ x0
undone b0 b1 b2 b3 a0 a1 a2 a3 u x0 x1 x2 x3 h0 h1 h2 h3 =
    aligned b0 b1 b2 b3 a0 a1 a2 a3 x0 x1 x2 x3
    ∙ ap₂ bit_xor (ap₂ bit_xor (ap₂ bit_xor (u.own x0 h0) (u.next x1 h1)) (u.across x2 h2)) (u.before x3 h3)
    ∙ sum4_zeros x0

column_undone : (b0 b1 b2 b3 a0 a1 a2 a3 : ℕ) → Undoes b0 b1 b2 b3 a0 a1 a2 a3
    → (s0 s1 s2 s3 : ℕ) → s0 < 256 → s1 < 256 → s2 < 256 → s3 < 256
    → column b0 b1 b2 b3 (combination a0 a1 a2 a3 s0 s1 s2 s3) (combination a0 a1 a2 a3 s1 s2 s3 s0)
    (combination a0 a1 a2 a3 s2 s3 s0 s1) (combination a0 a1 a2 a3 s3 s0 s1 s2)
    ≡ s0 ∷ s1 ∷ s2 ∷ s3 ∷ []
column_undone b0 b1 b2 b3 a0 a1 a2 a3 u s0 s1 s2 s3 h0 h1 h2 h3 =
    let e0 = undone b0 b1 b2 b3 a0 a1 a2 a3 u s0 s1 s2 s3 h0 h1 h2 h3 in
    let e1 = undone b0 b1 b2 b3 a0 a1 a2 a3 u s1 s2 s3 s0 h1 h2 h3 h0 in
    let e2 = undone b0 b1 b2 b3 a0 a1 a2 a3 u s2 s3 s0 s1 h2 h3 h0 h1 in
    let e3 = undone b0 b1 b2 b3 a0 a1 a2 a3 u s3 s0 s1 s2 h3 h0 h1 h2 in
    cc

-- the tests of the coefficients, over each byte
test_of_own : passes_below (λ x. gathered 14 11 13 9 2 1 1 3 x == x) 256 ≡ true
unfolding xtime product_bits passes_below
test_of_own = refl

test_of_next : passes_below (λ x. gathered 14 11 13 9 3 2 1 1 x == 0) 256 ≡ true
unfolding xtime product_bits passes_below
test_of_next = refl

test_of_across : passes_below (λ x. gathered 14 11 13 9 1 3 2 1 x == 0) 256 ≡ true
unfolding xtime product_bits passes_below
test_of_across = refl

test_of_before : passes_below (λ x. gathered 14 11 13 9 1 1 3 2 x == 0) 256 ≡ true
unfolding xtime product_bits passes_below
test_of_before = refl

inverse_undoes : Undoes 14 11 13 9 2 3 1 1
inverse_undoes = record {
  own = λ x h. eqb-true _ _ (passes_at _ 256 test_of_own x h);
  next = λ x h. eqb-true _ _ (passes_at _ 256 test_of_next x h);
  across = λ x h. eqb-true _ _ (passes_at _ 256 test_of_across x h);
  before = λ x h. eqb-true _ _ (passes_at _ 256 test_of_before x h);
}

test_of_own' : passes_below (λ x. gathered 2 3 1 1 14 9 13 11 x == x) 256 ≡ true
unfolding xtime product_bits passes_below
test_of_own' = refl

test_of_next' : passes_below (λ x. gathered 2 3 1 1 11 14 9 13 x == 0) 256 ≡ true
unfolding xtime product_bits passes_below
test_of_next' = refl

test_of_across' : passes_below (λ x. gathered 2 3 1 1 13 11 14 9 x == 0) 256 ≡ true
unfolding xtime product_bits passes_below
test_of_across' = refl

test_of_before' : passes_below (λ x. gathered 2 3 1 1 9 13 11 14 x == 0) 256 ≡ true
unfolding xtime product_bits passes_below
test_of_before' = refl

undoes_inverse : Undoes 2 3 1 1 14 11 13 9
undoes_inverse = record {
  own = λ x h. eqb-true _ _ (passes_at _ 256 test_of_own' x h);
  next = λ x h. eqb-true _ _ (passes_at _ 256 test_of_next' x h);
  across = λ x h. eqb-true _ _ (passes_at _ 256 test_of_across' x h);
  before = λ x h. eqb-true _ _ (passes_at _ 256 test_of_before' x h);
}

pub inverse_column-column : (s0 s1 s2 s3 : ℕ) → s0 < 256 → s1 < 256 → s2 < 256 → s3 < 256
    → column 14 11 13 9 (combination 2 3 1 1 s0 s1 s2 s3) (combination 2 3 1 1 s1 s2 s3 s0)
    (combination 2 3 1 1 s2 s3 s0 s1) (combination 2 3 1 1 s3 s0 s1 s2)
    ≡ s0 ∷ s1 ∷ s2 ∷ s3 ∷ []
inverse_column-column = column_undone 14 11 13 9 2 3 1 1 inverse_undoes

pub column-inverse_column : (s0 s1 s2 s3 : ℕ) → s0 < 256 → s1 < 256 → s2 < 256 → s3 < 256
    → column 2 3 1 1 (combination 14 11 13 9 s0 s1 s2 s3) (combination 14 11 13 9 s1 s2 s3 s0)
    (combination 14 11 13 9 s2 s3 s0 s1) (combination 14 11 13 9 s3 s0 s1 s2)
    ≡ s0 ∷ s1 ∷ s2 ∷ s3 ∷ []
column-inverse_column = column_undone 2 3 1 1 14 11 13 9 undoes_inverse
