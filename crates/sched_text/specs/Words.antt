-- The words that stand for numbers and bytes.
use Rattle.std.specs.Prelude.{◌≡◌, ℕ, ◌+◌, ◌/◌, ◌%◌, ◌<◌, ◌≤◌, ◌^◌, List, [], ◌∷◌, ◌⊎◌, codes, length}

-- A number is below 2^64. Its word is `decimal number`, which has no sign and no leading zero.
abbrev pub IsNumber : ℕ → Type 0
IsNumber number = number < 2 ^ 64

-- the digit is `0` to `9`, `a` to `f` or `A` to `F`, and has this value
abbrev pub IsDigit : ℕ → ℕ → Type 0
IsDigit value digit = ((value < 10) × (digit ≡ 48 + value)) ⊎ ((10 ≤ value) × (value < 16) × ((digit ≡ 87 + value) ⊎ (digit ≡ 55 + value)))

-- a pair of digits a byte, that of the high four bits first
abbrev pub ArePairs : List ℕ → List ℕ → Type 0
ArePairs [] word = word ≡ []
ArePairs (byte ∷ bytes) word =
    (high low : ℕ) × (rest : List ℕ) × IsDigit (byte / 16) high × IsDigit (byte % 16) low × (word ≡ high ∷ low ∷ rest) × ArePairs bytes rest

-- HEX: one pair of digits or more, or `-` for no byte
abbrev pub IsHex : List ℕ → List ℕ → Type 0
IsHex bytes word = ((bytes ≡ []) × (word ≡ codes "-")) ⊎ ((0 < length bytes) × ArePairs bytes word)
