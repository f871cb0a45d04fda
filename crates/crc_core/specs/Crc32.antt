-- The cyclic redundancy check of 32 bits of ISO/IEC 3309 and of ITU-T V.42 (8.1.1.6.2), as RFC 1952, section 8,
-- has it: bit 0 of the register is its coefficient of x^31, and each byte is taken from its lowest bit on.
use Rattle.std.specs.Prelude.{ℕ, zero, suc, ◌/◌, ◌%◌, ◌==◌, List, [], ◌∷◌, bit_xor, if◌then◌else◌}
use Rattle.std.specs.Int.{w32, bit_not}

-- x^26 + x^23 + x^22 + x^16 + x^12 + x^11 + x^10 + x^8 + x^7 + x^5 + x^4 + x^2 + x + 1, which is x^32 modulo the
-- generator polynomial; the coefficient of x^31 is bit 0
abbrev pub polynomial : ℕ
polynomial = 0xedb88320

-- A bit is fed: the register moves down by one, and where the bit that falls out differs from the bit that
-- is fed, the polynomial is added.
unfoldable pub fed_bit : ℕ → ℕ → ℕ
fed_bit register bit = bit_xor (register / 2) (if register % 2 == bit then 0 else polynomial)

-- the n lowest bits of a number are fed, the lowest first
unfoldable pub fed_bits : ℕ → ℕ → ℕ → ℕ
fed_bits zero register number = register
fed_bits (suc n) register number = fed_bits n (fed_bit register (number % 2)) (number / 2)

-- the eight bits of a byte
abbrev pub fed_byte : ℕ → ℕ → ℕ
fed_byte register byte = fed_bits 8 register byte

-- the bytes of a text, the first one first
unfoldable pub fed : ℕ → List ℕ → ℕ
fed register [] = register
fed register (byte ∷ bytes) = fed (fed_byte register byte) bytes

-- the register at the start: ones alone
abbrev pub start : ℕ
start = 0xffffffff

-- the register after a text
abbrev pub register_after : List ℕ → ℕ
register_after bytes = fed start bytes

-- what is told of a register: each of its 32 bits inverted
abbrev pub told : ℕ → ℕ
told register = bit_not w32 register

-- the check of a text
abbrev pub crc32 : List ℕ → ℕ
crc32 bytes = told (register_after bytes)
