-- The field GF(2^8) of FIPS 197, section 4, in the edition updated in May 2023 (FIPS 197-upd1), as in
-- the other files here. A byte is a number below 256; bit i of the number is the coefficient of x^i.
use Rattle.std.specs.Prelude.{ℕ, zero, suc, ◌*◌, ◌/◌, ◌%◌, ◌==◌, bit_xor, if◌then◌else◌}
use Rattle.std.specs.Int.{bit_at}

-- Multiplication by x (4.2): the bits move up by one, and where bit 7 was set, the polynomial
-- x^4 + x^3 + x + 1, which is x^8 modulo x^8 + x^4 + x^3 + x + 1, is added.
unfoldable pub xtime : ℕ → ℕ
xtime b = bit_xor (2 * b % 256) (if bit_at b 7 == 1 then 0x1b else 0)

-- The product of a and b (4.2) by the n lowest bits of a: b where bit 0 of a is set, plus x times
-- the product of the bits above.
unfoldable pub product_bits : ℕ → ℕ → ℕ → ℕ
product_bits zero a b = 0
product_bits (suc n) a b =
    bit_xor (if a % 2 == 1 then b else 0) (xtime (product_bits n (a / 2) b))

-- the product of two bytes
abbrev pub product : ℕ → ℕ → ℕ
product a b = product_bits 8 a b

abbrev pub square : ℕ → ℕ
square b = product b b

-- b to the power e by the n lowest bits of e: b where bit 0 of e is set, times the square of the
-- power by the bits above.
unfoldable pub power_bits : ℕ → ℕ → ℕ → ℕ
power_bits zero b e = 1
power_bits (suc n) b e = product (if e % 2 == 1 then b else 1) (square (power_bits n b (e / 2)))

-- a byte to a power below 256
abbrev pub power : ℕ → ℕ → ℕ
power b e = power_bits 8 b e

-- The multiplicative inverse of a byte (4.4), which is its power 254; 0 goes to 0.
unfoldable pub inverse : ℕ → ℕ
inverse b = power b 254
