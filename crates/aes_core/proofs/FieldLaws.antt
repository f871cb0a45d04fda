-- Multiplication by x, and by a constant, is additive.
use Rattle.std.proofs.Common.{◌≡◌, ℕ, zero, suc, ◌+◌, ◌*◌, ◌/◌, ◌%◌, ◌^◌, ◌<◌, Bool, true, false, refl, sym, ap, ap₂, ◌∙◌, arith, lit<}
use Rattle.std.specs.Prelude.{bit_xor, ◌==◌, if◌then◌else◌}
use Rattle.std.specs.Int.{bit_at}
use Rattle.std.proofs.lemmas.Nat.{xor_block, xor_mod, xor_lt}
use Rattle.std.proofs.lemmas.Nat.Bits.{bit_at_xor, bit_at-lt}
use Rattle.aes_core.specs.Field.{xtime, product_bits, product, square, power_bits}
use Rattle.aes_core.proofs.TableTests.{by_bit}
use Rattle.aes_core.proofs.XorLaws.{xor_swap, sum4}

doubled_xor : (a b : ℕ) → 2 * bit_xor a b ≡ bit_xor (2 * a) (2 * b)
doubled_xor a b =
    let block : bit_xor (a * 2 ^ 1 + 0) (b * 2 ^ 1 + 0) ≡ bit_xor a b * 2 ^ 1 + bit_xor 0 0 = xor_block 1 a b 0 0 (omega arith) (omega arith) in
    let left : 2 * a ≡ a * 2 ^ 1 + 0 = omega arith in
    let right : 2 * b ≡ b * 2 ^ 1 + 0 = omega arith in
    let whole : 2 * bit_xor a b ≡ bit_xor a b * 2 ^ 1 + 0 = omega arith in
    rw (left, right) (whole ∙ sym block)

-- what xtime adds for a bit 7
abbrev reduction : ℕ → ℕ
reduction bit = if bit == 1 then 0x1b else 0

reduction_xor : (a b : ℕ) → a < 2 → b < 2 → reduction ((a + b) % 2) ≡ bit_xor (reduction a) (reduction b)
reduction_xor a b ha hb =
    by_bit (λ x. reduction ((x + b) % 2) ≡ bit_xor (reduction x) (reduction b))
    (by_bit (λ y. reduction ((0 + y) % 2) ≡ bit_xor (reduction 0) (reduction y)) refl refl b hb)
    (by_bit (λ y. reduction ((1 + y) % 2) ≡ bit_xor (reduction 1) (reduction y)) refl refl b hb) a ha

pub xtime-xor : (a b : ℕ) → xtime (bit_xor a b) ≡ bit_xor (xtime a) (xtime b)
unfolding xtime
xtime-xor a b =
    let shifted : 2 * bit_xor a b % 256 ≡ bit_xor (2 * a % 256) (2 * b % 256) =
    ap (λ (x : ℕ). x % 256) (doubled_xor a b) ∙ xor_mod (2 * a) (2 * b) 8 in
    let reduced : reduction (bit_at (bit_xor a b) 7) ≡ bit_xor (reduction (bit_at a 7)) (reduction (bit_at b 7)) =
    ap reduction (bit_at_xor a b 7) ∙ reduction_xor (bit_at a 7) (bit_at b 7) (bit_at-lt a 7) (bit_at-lt b 7) in
    ap₂ bit_xor shifted reduced
    ∙ xor_swap (2 * a % 256) (2 * b % 256) (reduction (bit_at a 7)) (reduction (bit_at b 7))

reduction-lt : (bit : ℕ) → bit < 2 → reduction bit < 2 ^ 8
reduction-lt bit h = by_bit (λ x. reduction x < 2 ^ 8) (lit< tt) (lit< tt) bit h

pub xtime-lt : (b : ℕ) → xtime b < 256
unfolding xtime
xtime-lt b = xor_lt 8 (2 * b % 256) (reduction (bit_at b 7)) (omega arith) (reduction-lt (bit_at b 7) (bit_at-lt b 7))

if_xor : (t : Bool) (x y : ℕ) → (if t then bit_xor x y else 0) ≡ bit_xor (if t then x else 0) (if t then y else 0)
if_xor true x y = refl
if_xor false x y = refl

pub product_bits-xor : (n a x y : ℕ) → product_bits n a (bit_xor x y) ≡ bit_xor (product_bits n a x) (product_bits n a y)
unfolding product_bits
product_bits-xor zero a x y = refl
product_bits-xor (suc n) a x y =
    ap₂ bit_xor (if_xor (a % 2 == 1) x y)
    (ap xtime (product_bits-xor n (a / 2) x y) ∙ xtime-xor (product_bits n (a / 2) x) (product_bits n (a / 2) y))
    ∙ xor_swap (if a % 2 == 1 then x else 0) (if a % 2 == 1 then y else 0)
    (xtime (product_bits n (a / 2) x)) (xtime (product_bits n (a / 2) y))

-- the product with a sum of four
pub product-sum4 : (a p q r s : ℕ) → product a (sum4 p q r s) ≡ sum4 (product a p) (product a q) (product a r) (product a s)
product-sum4 a p q r s =
    product_bits-xor 8 a (bit_xor (bit_xor p q) r) s
    ∙ ap (λ (x : ℕ). bit_xor x (product a s)) (product_bits-xor 8 a (bit_xor p q) r
    ∙ ap (λ (x : ℕ). bit_xor x (product a r)) (product_bits-xor 8 a p q))

if-lt : (t : Bool) (x : ℕ) → x < 256 → (if t then x else 0) < 256
if-lt true x h = h
if-lt false x h = lit< tt

pub product_bits-lt : (n a x : ℕ) → x < 256 → product_bits n a x < 256
unfolding product_bits
product_bits-lt zero a x h = lit< tt
product_bits-lt (suc n) a x h =
    xor_lt 8 (if a % 2 == 1 then x else 0) (xtime (product_bits n (a / 2) x)) (if-lt (a % 2 == 1) x h) (xtime-lt (product_bits n (a / 2) x))

pub power_bits-lt : (n b e : ℕ) → power_bits n b e < 256
unfolding power_bits
power_bits-lt zero b e = lit< tt
power_bits-lt (suc n) b e =
    let half : ℕ = power_bits n b (e / 2) in
    product_bits-lt 8 (if e % 2 == 1 then b else 1) (square half) (product_bits-lt 8 half half (power_bits-lt n b (e / 2)))
