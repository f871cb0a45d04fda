-- What stands at the front of a text.
use Rattle.std.specs.Prelude.{◌≡◌, ℕ, zero, suc, ◌+◌, ◌*◌, ◌%◌, nat_lt, ◌==◌, if◌then◌else◌, Bool, true, false, List, [], ◌∷◌, ◌++◌, length, take, drop, slice_index, Result, Ok, Err, ⊤}
use Rattle.std.specs.Borrow.{Bor}
use Rattle.byteorder.specs.Endian.{little_number}
use Rattle.tl_codec.specs.Standard.{vector, bool_true, bool_false, longs_max}
use Rattle.tl_codec.specs.declared.fault.TlFault.{TlFault}
use Rattle.tl_codec.specs.declared.fault.TlFault.TheVariants.{Short, BadTag, TooMany, Memory}
use Rattle.tl_codec.specs.Spelling.{Form, Int, Long, Raw, Bytes, Longs, Truth, Tag, Of, Reads, padding_of}

-- a front of the old text is the value, and the new text is what follows it
abbrev pub Takes : (form : Form) → Of form → List ℕ → List ℕ → Type 0
Takes form value old new = (front : List ℕ) × Reads form value front × (old ≡ front ++ new)

-- no front of the text is a value of the form
abbrev pub NoFront : Form → List ℕ → Type 0
NoFront form text = (value : Of form) (rest : List ℕ) → Takes form value text rest → ⊥

-- ---- The value at the front and the text after it, or why there is none: the fault that a read of the
-- form answers.

infixl 10 ◌>>=◌
abbrev pub ◌>>=◌ : {A B : Type 0} → Result A TlFault → (A → Result B TlFault) → Result B TlFault
(Ok x) >>= f = f x
(Err e) >>= f = Err e

abbrev pub raw_at : ℕ → List ℕ → Result (List ℕ × List ℕ) TlFault
raw_at size text = if nat_lt (length text) size then Err (Short size (length text)) else Ok (take size text, drop size text)

unfoldable pub number_at : ℕ → List ℕ → Result (ℕ × List ℕ) TlFault
number_at size text = do
  field ← raw_at size text
  Ok (little_number size field.0, field.1)

unfoldable pub tag_at : ℕ → List ℕ → Result (Unit {0} × List ℕ) TlFault
tag_at want text = do
  found ← number_at 4 text
  if found.0 == want then Ok (tt, found.1) else Err (BadTag found.0)

unfoldable pub truth_at : List ℕ → Result (Bool × List ℕ) TlFault
truth_at text = do
  found ← number_at 4 text
  if found.0 == bool_true then Ok (true, found.1) else if found.0 == bool_false then Ok (false, found.1) else Err (BadTag found.0)

-- How many bytes the length in front of a string takes, and the length. A string has 4 bytes at least.
-- The byte 255 begins no string.
unfoldable pub head_at : List ℕ → Result (ℕ × ℕ) TlFault
head_at text =
    let first = slice_index text 0 in
    if length text == 0 then Err (Short 4 0)
    else if nat_lt first 254 then Ok (1, first)
    else if first == 254 then
    if nat_lt (length text) 4 then Err (Short 4 (length text)) else Ok (4, little_number 3 (drop 1 text))
    else Err (BadTag first)

unfoldable pub bytes_at : List ℕ → Result (List ℕ × List ℕ) TlFault
bytes_at text = do
  head ← head_at text
  field ← raw_at (head.0 + head.1 + padding_of (head.0 + head.1)) text
  Ok (take head.1 (drop head.0 field.0), field.1)

-- the numbers of 8 bytes each, one after the other
abbrev pub longs_in : ℕ → List ℕ → List ℕ
longs_in zero text = []
longs_in (suc count) text = little_number 8 text ∷ longs_in count (drop 8 text)

-- Where items are missing, the first one that isn't whole is short.
unfoldable pub longs_at : List ℕ → Result (List ℕ × List ℕ) TlFault
longs_at text = do
  tag ← tag_at vector text
  count ← number_at 4 tag.1
  if nat_lt longs_max count.0 then Err (TooMany count.0)
      else if nat_lt (length count.1) (8 * count.0) then Err (Short 8 (length count.1 % 8))
      else Ok (longs_in count.0 count.1, drop (8 * count.0) count.1)

abbrev pub read_at : (form : Form) → List ℕ → Result (Of form × List ℕ) TlFault
read_at Int text = number_at 4 text
read_at Long text = number_at 8 text
read_at (Raw size) text = raw_at size text
read_at Bytes text = bytes_at text
read_at Longs text = longs_at text
read_at Truth text = truth_at text
read_at (Tag number) text = tag_at number text

-- ---- What a read answers. It is what stands at the front, together with what the read left.

abbrev pub with_rest : {A : Type 0} → Result A TlFault → List ℕ → Result (A × List ℕ) TlFault
with_rest (Ok value) rest = Ok (value, rest)
with_rest (Err fault) rest = Err fault

-- bytes that are lent from the text, by what they are
abbrev pub lent : Result (Bor (List ℕ)) TlFault → Result (List ℕ) TlFault
lent (Ok bytes) = Ok bytes.now
lent (Err fault) = Err fault

-- a fact about every answer but that memory ran out
abbrev pub UnlessMemory : {A : Type 0} → Result A TlFault → Type 0 → Type 0
UnlessMemory (Ok value) P = P
UnlessMemory (Err Memory) P = ⊤
UnlessMemory (Err fault) P = P
