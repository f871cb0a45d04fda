-- How TL values are spelt (core.telegram.org/mtproto/serialize).
use Rattle.std.specs.Prelude.{◌≡◌, ◌<◌, ◌≤◌, ◌^◌, ℕ, ◌+◌, ◌-◌, ◌*◌, ◌%◌, Bool, nat_lt, if◌then◌else◌, List, [], ◌∷◌, ◌++◌, length, replicate, ⊤, ◌⊎◌}
use Rattle.std.specs.List.{flat_map}
use Rattle.byteorder.specs.Endian.{little_bytes}
use Rattle.octets.specs.Bytes.{AreLongs}
use Rattle.tl_codec.specs.Standard.{vector, bool_true, bool_false, bytes_max, longs_max}

-- The forms that the values of MTProto's own objects have: `int`, `long`, the raw bytes of an `int128`
-- or `int256`, `bytes` (a `string` is the same), `Vector long`, `Bool`, and a boxed object's constructor.
pub data Form : Type 0 where
  Int : Form
  Long : Form
  Raw : ℕ → Form
  Bytes : Form
  Longs : Form
  Truth : Form
  Tag : ℕ → Form

-- the values of a form; a constructor says all by being there
abbrev pub Of : Form → Type 0
Of Int = ℕ
Of Long = ℕ
Of (Raw size) = List ℕ
Of Bytes = List ℕ
Of Longs = List ℕ
Of Truth = Bool
Of (Tag number) = Unit {0}

-- which of them have a spelling
abbrev pub Fits : (form : Form) → Of form → Type 0
Fits Int number = number < 2 ^ 32
Fits Long number = number < 2 ^ 64
Fits (Raw size) bytes = length bytes ≡ size
Fits Bytes content = length content ≤ bytes_max
Fits Longs numbers = (length numbers ≤ longs_max) × AreLongs numbers
Fits Truth value = ⊤
Fits (Tag number) value = number < 2 ^ 32

-- what is missing to a multiple of 4
abbrev pub padding_of : ℕ → ℕ
padding_of size = (4 - size % 4) % 4

-- the length in front of a string: one byte below 254, or 254 and three bytes
abbrev pub short_head : ℕ → List ℕ
short_head size = size ∷ []

abbrev pub long_head : ℕ → List ℕ
long_head size = 254 ∷ little_bytes 3 size

-- the short form where it fits
abbrev pub head : ℕ → List ℕ
head size = if nat_lt size 254 then short_head size else long_head size

-- The one spelling that a writer gives. A string is padded with zeros to a multiple of 4, its length
-- counted in. A vector has its constructor, its count and its items.
unfoldable pub spelling : (form : Form) → Of form → List ℕ
spelling Int number = little_bytes 4 number
spelling Long number = little_bytes 8 number
spelling (Raw size) bytes = bytes
spelling Bytes content = head (length content) ++ content ++ replicate (padding_of (length (head (length content)) + length content)) 0
spelling Longs numbers = little_bytes 4 vector ++ little_bytes 4 (length numbers) ++ flat_map (little_bytes 8) numbers
spelling Truth value = little_bytes 4 (if value then bool_true else bool_false)
spelling (Tag number) value = little_bytes 4 number

-- How many bytes a spelling has. A string takes a multiple of 4 with its length.
abbrev pub string_size : ℕ → ℕ
string_size size =
    let whole = (if nat_lt size 254 then 1 else 4) + size in
    whole + padding_of whole

abbrev pub size_of : (form : Form) → Of form → ℕ
size_of Int number = 4
size_of Long number = 8
size_of (Raw size) bytes = size
size_of Bytes content = string_size (length content)
size_of Longs numbers = 8 + 8 * length numbers
size_of Truth value = 4
size_of (Tag number) value = 4

-- the whole text is this value, as a writer spells it
abbrev pub Spells : (form : Form) → Of form → List ℕ → Type 0
Spells form value text = Fits form value × (text ≡ spelling form value)

-- A reader takes either head for any length, and any bytes as padding.
abbrev pub IsHead : ℕ → List ℕ → Type 0
IsHead size text = ((size < 254) × (text ≡ short_head size)) ⊎ ((size ≤ bytes_max) × (text ≡ long_head size))

abbrev pub ReadsBytes : List ℕ → List ℕ → Type 0
ReadsBytes content text =
    (front padding : List ℕ) × IsHead (length content) front × (length padding ≡ padding_of (length front + length content))
    × (text ≡ front ++ content ++ padding)

-- the whole text is this value, as a reader takes it
abbrev pub Reads : (form : Form) → Of form → List ℕ → Type 0
Reads Int number text = Spells Int number text
Reads Long number text = Spells Long number text
Reads (Raw size) bytes text = Spells (Raw size) bytes text
Reads Bytes content text = ReadsBytes content text
Reads Longs numbers text = Spells Longs numbers text
Reads Truth value text = Spells Truth value text
Reads (Tag number) value text = Spells (Tag number) value text
