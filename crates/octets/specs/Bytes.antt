-- Lists of bytes, and lists of numbers of 64 bits. Both are lists of natural numbers; past the end of a
-- list `slice_index` is 0.
use Rattle.std.specs.Prelude.{ℕ, ◌≡◌, ◌<◌, ◌^◌, List, [], ◌∷◌, length, bit_xor, slice_index}

-- each member is a byte
abbrev pub IsBytes : List ℕ → Type 0
IsBytes bytes = (i : ℕ) → slice_index bytes i < 256

-- a list of n bytes
pub record HasBytes (n : ℕ) (bytes : List ℕ) : Type 0 where
  pub count : length bytes ≡ n
  pub in_range : IsBytes bytes

-- each member is a number of 64 bits
abbrev pub AreLongs : List ℕ → Type 0
AreLongs numbers = (i : ℕ) → slice_index numbers i < 2 ^ 64

-- the exclusive or of two lists, place by place, as long as the shorter one
abbrev pub xor_bytes : List ℕ → List ℕ → List ℕ
xor_bytes [] _ = []
xor_bytes (x ∷ xs) [] = []
xor_bytes (x ∷ xs) (y ∷ ys) = bit_xor x y ∷ xor_bytes xs ys
