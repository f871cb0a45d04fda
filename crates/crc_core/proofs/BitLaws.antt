-- Feeding is additive in the register and the bits at once. So a number of n bits that is fed may as well be added
-- to the register beforehand, and bits of 0 be fed.
use Rattle.std.proofs.Common.{◌≡◌, ℕ, zero, suc, ◌+◌, ◌*◌, ◌/◌, ◌%◌, ◌^◌, ◌<◌, refl, sym, ap, ap₂, ◌∙◌, arith, pow-suc, div-one}
use Rattle.std.specs.Prelude.{bit_xor, ◌==◌, if◌then◌else◌}
use Rattle.std.specs.Int.Bits.{xor_assoc, xor_self, xor_zero_r}
use Rattle.std.proofs.lemmas.Nat.{xor_comm, xor_shr, xor_mod, xor_block, shr-shr, shr_split, pow_pos, mod_below}
use Rattle.crc_core.specs.Crc32.{polynomial, fed_bit, fed_bits}
use Rattle.crc_core.proofs.TableTests.{by_bit}

-- the inner two of four change places
pub xor_swap : (a b c d : ℕ) → bit_xor (bit_xor a b) (bit_xor c d) ≡ bit_xor (bit_xor a c) (bit_xor b d)
xor_swap a b c d =
    xor_assoc a b (bit_xor c d)
    ∙ ap (λ (x : ℕ). bit_xor a x) (sym (xor_assoc b c d) ∙ ap (λ (x : ℕ). bit_xor x d) (xor_comm b c) ∙ xor_assoc c b d)
    ∙ sym (xor_assoc a c (bit_xor b d))

-- what is added twice is gone
xor_twice : (a b : ℕ) → bit_xor (bit_xor a b) b ≡ a
xor_twice a b = rw (xor_assoc a b b, xor_self b, xor_zero_r a) refl

-- what is added for the bit that falls out and the bit that is fed
abbrev added : ℕ → ℕ → ℕ
added out bit = if out == bit then 0 else polynomial

abbrev AddedXor : ℕ → ℕ → ℕ → ℕ → Type 0
AddedXor a b x y = added (bit_xor a b) (bit_xor x y) ≡ bit_xor (added a x) (added b y)

added-xor : (a b x y : ℕ) → a < 2 → b < 2 → x < 2 → y < 2 → AddedXor a b x y
added-xor a b x y ha hb hx hy =
    by_bit (λ a. AddedXor a b x y)
    (by_bit (λ b. AddedXor 0 b x y)
    (by_bit (λ x. AddedXor 0 0 x y) (by_bit (AddedXor 0 0 0) refl refl y hy) (by_bit (AddedXor 0 0 1) refl refl y hy) x hx)
    (by_bit (λ x. AddedXor 0 1 x y) (by_bit (AddedXor 0 1 0) refl refl y hy) (by_bit (AddedXor 0 1 1) refl refl y hy) x hx)
    b hb)
    (by_bit (λ b. AddedXor 1 b x y)
    (by_bit (λ x. AddedXor 1 0 x y) (by_bit (AddedXor 1 0 0) refl refl y hy) (by_bit (AddedXor 1 0 1) refl refl y hy) x hx)
    (by_bit (λ x. AddedXor 1 1 x y) (by_bit (AddedXor 1 1 0) refl refl y hy) (by_bit (AddedXor 1 1 1) refl refl y hy) x hx)
    b hb)
    a ha

added_same : (bit : ℕ) → bit < 2 → added bit bit ≡ 0
added_same = by_bit (λ bit. added bit bit ≡ 0) refl refl

fed_bit-xor : (r s a b : ℕ) → a < 2 → b < 2 → fed_bit (bit_xor r s) (bit_xor a b) ≡ bit_xor (fed_bit r a) (fed_bit s b)
unfolding fed_bit
fed_bit-xor r s a b ha hb =
    let halved : bit_xor r s / 2 ≡ bit_xor (r / 2) (s / 2) = xor_shr r s 1 in
    let out : added (bit_xor r s % 2) (bit_xor a b) ≡ bit_xor (added (r % 2) a) (added (s % 2) b) =
    ap (λ (x : ℕ). added x (bit_xor a b)) (xor_mod r s 1) ∙ added-xor (r % 2) (s % 2) a b (omega arith) (omega arith) ha hb in
    ap₂ bit_xor halved out ∙ xor_swap (r / 2) (s / 2) (added (r % 2) a) (added (s % 2) b)

pub fed_bits-xor : (n r s x y : ℕ) → fed_bits n (bit_xor r s) (bit_xor x y) ≡ bit_xor (fed_bits n r x) (fed_bits n s y)
unfolding fed_bits
fed_bits-xor zero r s x y = refl
fed_bits-xor (suc n) r s x y =
    let once : fed_bit (bit_xor r s) (bit_xor x y % 2) ≡ bit_xor (fed_bit r (x % 2)) (fed_bit s (y % 2)) =
    ap (fed_bit (bit_xor r s)) (xor_mod x y 1) ∙ fed_bit-xor r s (x % 2) (y % 2) (omega arith) (omega arith) in
    ap₂ (fed_bits n) once (xor_shr x y 1) ∙ fed_bits-xor n (fed_bit r (x % 2)) (fed_bit s (y % 2)) (x / 2) (y / 2)

-- a register that its own bits are fed to is emptied, and nothing is added
same_fed : (n x : ℕ) → fed_bits n x x ≡ x / 2 ^ n
unfolding fed_bits fed_bit
same_fed zero x = sym (div-one x)
same_fed (suc n) x =
    let once : fed_bit x (x % 2) ≡ x / 2 = ap (bit_xor (x / 2)) (added_same (x % 2) (omega arith)) ∙ xor_zero_r (x / 2) in
    let e : 1 + n ≡ suc n = omega arith in
    ap (λ (r : ℕ). fed_bits n r (x / 2)) once ∙ same_fed n (x / 2) ∙ shr-shr x 1 n ∙ ap (λ (k : ℕ). x / 2 ^ k) e

-- a number below 2 ^ n that is fed may as well be added beforehand
pub fed_as_added : (n r x : ℕ) → x / 2 ^ n ≡ 0 → fed_bits n r x ≡ fed_bits n (bit_xor r x) 0
fed_as_added n r x h =
    ap (λ (s : ℕ). fed_bits n s x) (sym (xor_twice r x))
    ∙ fed_bits-xor n (bit_xor r x) x 0 x
    ∙ ap (bit_xor (fed_bits n (bit_xor r x) 0)) (same_fed n x ∙ h)
    ∙ xor_zero_r (fed_bits n (bit_xor r x) 0)

even_fed : (k : ℕ) → fed_bit (2 * k) 0 ≡ k
unfolding fed_bit
even_fed k =
    let half : 2 * k / 2 ≡ k = omega arith in
    let even : 2 * k % 2 ≡ 0 = omega arith in
    ap₂ bit_xor half (ap (λ (x : ℕ). added x 0) even) ∙ xor_zero_r k

-- n bits of 0 at the register's low end fall out, and nothing is added
pub zeros_fall_out : (m n k : ℕ) → fed_bits (m + n) (k * 2 ^ n) 0 ≡ fed_bits m k 0
unfolding fed_bits
zeros_fall_out m zero k =
    let none : m + 0 ≡ m = omega arith in
    let whole : k * 2 ^ 0 ≡ k = omega arith in
    ap₂ (λ (j r : ℕ). fed_bits j r 0) none whole
zeros_fall_out m (suc n) k =
    let more : m + suc n ≡ suc (m + n) = omega arith in
    let twice : k * 2 ^ suc n ≡ 2 * (k * 2 ^ n) = omega (arith, ap (λ (p : ℕ). k * p) (pow-suc 2 n)) in
    ap (λ (j : ℕ). fed_bits j (k * 2 ^ suc n) 0) more
    ∙ ap (λ (r : ℕ). fed_bits (m + n) (fed_bit r 0) 0) twice
    ∙ ap (λ (r : ℕ). fed_bits (m + n) r 0) (even_fed (k * 2 ^ n))
    ∙ zeros_fall_out m n k

split_xor : (n x : ℕ) → bit_xor (x / 2 ^ n * 2 ^ n) (x % 2 ^ n) ≡ x
split_xor n x =
    let some : 0 < 2 ^ n = pow_pos n in
    let block : bit_xor (x / 2 ^ n * 2 ^ n + 0) (0 * 2 ^ n + x % 2 ^ n) ≡ bit_xor (x / 2 ^ n) 0 * 2 ^ n + bit_xor 0 (x % 2 ^ n) =
    xor_block n (x / 2 ^ n) 0 0 (x % 2 ^ n) some (mod_below x (2 ^ n) some) in
    let high : x / 2 ^ n * 2 ^ n ≡ x / 2 ^ n * 2 ^ n + 0 = omega arith in
    let low : x % 2 ^ n ≡ 0 * 2 ^ n + x % 2 ^ n = omega arith in
    ap₂ bit_xor high low ∙ block
    ∙ ap (λ (h : ℕ). h * 2 ^ n + x % 2 ^ n) (xor_zero_r (x / 2 ^ n)) ∙ shr_split x n

-- the register moves down by n bits, and what its n lowest bits become is added
pub zeros_fed : (m n x : ℕ) → fed_bits (m + n) x 0 ≡ bit_xor (fed_bits m (x / 2 ^ n) 0) (fed_bits (m + n) (x % 2 ^ n) 0)
zeros_fed m n x =
    ap (λ (r : ℕ). fed_bits (m + n) r 0) (sym (split_xor n x))
    ∙ fed_bits-xor (m + n) (x / 2 ^ n * 2 ^ n) (x % 2 ^ n) 0 0
    ∙ ap (λ (r : ℕ). bit_xor r (fed_bits (m + n) (x % 2 ^ n) 0)) (zeros_fall_out m n (x / 2 ^ n))
