-- A text in two pieces; a byte that is fed, and what it becomes after the text behind it.
use Rattle.std.proofs.Common.{◌≡◌, ℕ, zero, suc, ◌+◌, ◌*◌, ◌/◌, ◌%◌, ◌<◌, List, [], ◌∷◌, ◌++◌, length, refl, sym, ap, ◌∙◌, arith}
use Rattle.std.specs.Prelude.{bit_xor}
use Rattle.std.specs.Int.Bits.{xor_zero_r}
use Rattle.std.proofs.lemmas.Nat.{xor_shr}
use Rattle.crc_core.specs.Crc32.{fed_bit, fed_bits, fed_byte, fed}
use Rattle.crc_core.proofs.BitLaws.{fed_bits-xor, fed_as_added, zeros_fed}

pub fed-append : (register : ℕ) (front back : List ℕ) → fed (fed register front) back ≡ fed register (front ++ back)
unfolding fed
fed-append register [] back = refl
fed-append register (byte ∷ front) back = fed-append (fed_byte register byte) front back

zeros_out : (x : ℕ) → fed_bits 8 x 0 ≡ bit_xor (x / 256) (fed_bits 8 (x % 256) 0)
unfolding fed_bits
zeros_out x = zeros_fed 0 8 x

-- the register moves down by a byte, and what the byte that falls out becomes is added
pub byte_fed : (register byte : ℕ) → byte < 256
    → fed_byte register byte ≡ bit_xor (bit_xor register byte / 256) (fed_bits 8 (bit_xor register byte % 256) 0)
byte_fed register byte h =
    fed_as_added 8 register byte (omega arith) ∙ zeros_out (bit_xor register byte)

pub zeros_in_turn : (m n x : ℕ) → fed_bits m (fed_bits n x 0) 0 ≡ fed_bits (n + m) x 0
unfolding fed_bits
zeros_in_turn m zero x =
    let e : m ≡ 0 + m = omega arith in
    ap (λ (j : ℕ). fed_bits j x 0) e
zeros_in_turn m (suc n) x =
    let e : suc (n + m) ≡ suc n + m = omega arith in
    zeros_in_turn m n (fed_bit x 0) ∙ ap (λ (j : ℕ). fed_bits j x 0) e

-- what is added to the register beforehand is, after a text, what it becomes after as many bytes of 0
pub fed-xor : (bytes : List ℕ) (r s : ℕ) → fed (bit_xor r s) bytes ≡ bit_xor (fed r bytes) (fed_bits (length bytes * 8) s 0)
unfolding fed fed_bits
fed-xor [] r s = refl
fed-xor (byte ∷ bytes) r s =
    let once : fed_byte (bit_xor r s) byte ≡ bit_xor (fed_byte r byte) (fed_bits 8 s 0) =
    ap (fed_bits 8 (bit_xor r s)) (sym (xor_zero_r byte)) ∙ fed_bits-xor 8 r s byte 0 in
    let e : 8 + length bytes * 8 ≡ suc (length bytes) * 8 = omega arith in
    ap (λ (x : ℕ). fed x bytes) once ∙ fed-xor bytes (fed_byte r byte) (fed_bits 8 s 0)
    ∙ ap (bit_xor (fed (fed_byte r byte) bytes))
    (zeros_in_turn (length bytes * 8) 8 s ∙ ap (λ (j : ℕ). fed_bits j s 0) e)

pub first_byte : (register byte : ℕ) (bytes : List ℕ) → byte < 256
    → fed register (byte ∷ bytes) ≡ bit_xor (fed (register / 256) bytes) (fed_bits (8 + length bytes * 8) (bit_xor register byte % 256) 0)
unfolding fed
first_byte register byte bytes h =
    let x = bit_xor register byte in
    let none : byte / 256 ≡ 0 = omega arith in
    let moved : x / 256 ≡ register / 256 = xor_shr register byte 8 ∙ ap (bit_xor (register / 256)) none ∙ xor_zero_r (register / 256) in
    ap (λ (r : ℕ). fed r bytes) (byte_fed register byte h ∙ ap (λ (r : ℕ). bit_xor r (fed_bits 8 (x % 256) 0)) moved)
    ∙ fed-xor bytes (register / 256) (fed_bits 8 (x % 256) 0)
    ∙ ap (bit_xor (fed (register / 256) bytes)) (zeros_in_turn (length bytes * 8) 8 (x % 256))
