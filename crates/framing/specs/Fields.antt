-- Scaffolding of the forms' proofs, and no promise: a number as little-endian bytes at the front of a text.
use Rattle.std.proofs.Common.{◌≡◌, ℕ, zero, suc, ◌+◌, ◌*◌, ◌/◌, ◌%◌, ◌^◌, ◌<◌, ◌≤◌, List, [], ◌∷◌, length, take, refl, sym, ap, ◌∙◌, arith}
use Rattle.std.proofs.Math.Nat.{div-div-eq-div-mul, div-one, pow-succ'}
use Rattle.std.specs.Int.{byte_at, bytes_low_first}
use Rattle.byteorder.specs.Endian.{little_bytes, little_number, little_from}
use Rattle.byteorder.specs.Numbers.{little_from-cons}
use Rattle.octets.specs.Bytes.{IsBytes}

-- a byte of a number, by its place
byte_at-pow : (k x : ℕ) → byte_at k x ≡ x / 256 ^ k % 256
byte_at-pow zero x = ap (λ (y : ℕ). y % 256) (sym (div-one x))
byte_at-pow (suc k) x = refl

-- the bytes from the next place on are those of a 256th
bytes_low_first-suc : (j k x : ℕ) → bytes_low_first (suc j) k x ≡ bytes_low_first j k (x / 256)
bytes_low_first-suc j zero x = refl
bytes_low_first-suc j (suc k) x =
    let wide : x / 256 ^ suc j ≡ x / 256 / 256 ^ j = ap (λ (p : ℕ). x / p) (pow-succ' 256 j) ∙ sym (div-div-eq-div-mul x 256 (256 ^ j)) in
    let byte : byte_at (suc j) x ≡ byte_at j (x / 256) = ap (λ (y : ℕ). y % 256) wide ∙ sym (byte_at-pow j (x / 256)) in
    rw (byte, bytes_low_first-suc (suc j) k x) refl

-- what is read is spelled so
pub field-spelled : (n : ℕ) (text : List ℕ) → n ≤ length text → IsBytes text → little_bytes n (little_number n text) ≡ take n text
field-spelled zero text enough fits = refl
field-spelled (suc n) [] enough fits = absurd (omega arith)
field-spelled (suc n) (x ∷ xs) enough fits =
    let moved = little_from-cons 0 n x xs in
    let above = little_from 0 n xs in
    let small : x < 256 = fits 0 in
    let low : (x + 256 * above) % 256 ≡ x = omega arith in
    let high : (x + 256 * above) / 256 ≡ above = omega arith in
    let rest = field-spelled n xs (omega arith) (λ i. fits (suc i)) in
    rw (moved, low, bytes_low_first-suc 0 n (x + 256 * above), high, rest) refl
