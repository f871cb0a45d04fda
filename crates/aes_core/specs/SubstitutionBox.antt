-- SubBytes' table and its inverse, byte by byte (FIPS 197, 5.1.1 and 5.3.2).
use Rattle.std.specs.Prelude.{ℕ, ◌+◌, ◌*◌, ◌%◌}
use Rattle.std.specs.Int.{bit_at}
use Rattle.aes_core.specs.Field.{inverse}

-- the byte with these bits, bit 0 first
abbrev pub byte_of_bits : (ℕ → ℕ) → ℕ
byte_of_bits bit =
    bit 0 + 2 * bit 1 + 4 * bit 2 + 8 * bit 3 + 16 * bit 4 + 32 * bit 5 + 64 * bit 6 + 128 * bit 7

-- The affine transformation (5.1.1): bit i of the result is the sum modulo 2 of the bits i, i + 4,
-- i + 5, i + 6 and i + 7 of b, counted modulo 8, and bit i of the constant 63 (hexadecimal).
unfoldable pub affine : ℕ → ℕ
affine b = byte_of_bits (λ i.
    (bit_at b i + bit_at b ((i + 4) % 8) + bit_at b ((i + 5) % 8) + bit_at b ((i + 6) % 8)
    + bit_at b ((i + 7) % 8) + bit_at 0x63 i) % 2)

-- its inverse (5.3.2), with the constant 05
unfoldable pub inverse_affine : ℕ → ℕ
inverse_affine b = byte_of_bits (λ i.
    (bit_at b ((i + 2) % 8) + bit_at b ((i + 5) % 8) + bit_at b ((i + 7) % 8) + bit_at 0x05 i) % 2)

-- what SubBytes puts in the place of a byte
unfoldable pub sub_byte : ℕ → ℕ
sub_byte b = affine (inverse b)

-- what InvSubBytes puts in the place of a byte
unfoldable pub inverse_sub_byte : ℕ → ℕ
inverse_sub_byte b = inverse (inverse_affine b)
