-- The bytes of the number that bytes hold.
use Rattle.std.proofs.Common.{◌≡◌, ℕ, ◌+◌, ◌≤◌, List, length, take, drop, get_or, inl, inr, sym, ◌∙◌, arith}
use Rattle.std.proofs.lemmas.List.{length-take-le, get_or-take, get_or-drop, get_or_past}
use Rattle.std.proofs.lemmas.Bool.{cases_lt}
use Rattle.std.proofs.lemmas.Nat.{le_bytes_4, le_bytes_8}
use Rattle.std.specs.Int.{from_le_bytes, w32, w64}
use Rattle.byteorder.specs.Endian.{little_bytes, little_number}
use Rattle.byteorder.specs.Numbers.{little_from-take}
use Rattle.octets.specs.Bytes.{IsBytes}

IsBytes-take : (n : ℕ) (xs : List ℕ) → n ≤ length xs → IsBytes xs → IsBytes (take n xs)
IsBytes-take n xs enough bytes i =
    elim (cases_lt i n) [
      | inl lt ↦ rw get_or-take (bytes i)
      | inr le ↦ let past : get_or (take n xs) i 0 ≡ 0 = get_or_past (take n xs) i 0 (omega (arith, length-take-le n xs enough)) in rw past (omega arith)
    ]

pub int_bytes : (xs : List ℕ) → 4 ≤ length xs → IsBytes xs → little_bytes 4 (little_number 4 xs) ≡ take 4 xs
int_bytes xs enough bytes =
    let front = take 4 xs in
    let read : little_number 4 xs ≡ from_le_bytes w32 front = sym (little_from-take 0 4 4 xs (omega arith)) ∙ omega arith in
    le_bytes_4 front (little_number 4 xs) (length-take-le 4 xs enough) (IsBytes-take 4 xs enough bytes) read

pub long_bytes : (xs : List ℕ) → 8 ≤ length xs → IsBytes xs → little_bytes 8 (little_number 8 xs) ≡ take 8 xs
long_bytes xs enough bytes =
    let front = take 8 xs in
    let read : little_number 8 xs ≡ from_le_bytes w64 front = sym (little_from-take 0 8 8 xs (omega arith)) ∙ omega arith in
    le_bytes_8 front (little_number 8 xs) (length-take-le 8 xs enough) (IsBytes-take 8 xs enough bytes) read

pub IsBytes-drop : (n : ℕ) (xs : List ℕ) → IsBytes xs → IsBytes (drop n xs)
IsBytes-drop n xs bytes i = rw get_or-drop (bytes (n + i))
