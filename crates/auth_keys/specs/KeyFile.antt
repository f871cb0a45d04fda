-- Key files: a key a line, words with one blank between, a space or a tab.
use Rattle.std.specs.Prelude.{◌≡◌, ℕ, ◌+◌, ◌≤◌, ◌<◌, List, [], ◌∷◌, ◌++◌, ◌==◌, ◌||◌, ◌⊎◌, Ok, All, Bool, true, false, length, codes, decimal, if◌then◌else◌}
use Rattle.hex.specs.Hex.{decode_of}
use Rattle.msg_ids.specs.Moments.{latest_moment}
use Rattle.auth_keys.specs.Keys.{identifier}
use Rattle.auth_keys.specs.Rings.{IsRing, ring_keys_max}
use Rattle.auth_keys.specs.declared.fault.KeyFault.{KeyFault}
use Rattle.auth_keys.specs.declared.fault.KeyFault.TheVariants.{BadLine, TooMany, SameId, Memory}
use Rattle.auth_keys.specs.declared.key.KeyKind.{KeyKind}
use Rattle.auth_keys.specs.declared.key.KeyKind.TheVariants.{Perm, Temp}
use Rattle.auth_keys.specs.declared.ring.RingKey.{RingKey}

-- ---- lines

-- a byte before the first line's
abbrev pub onto_first : ℕ → List (List ℕ) → List (List ℕ)
onto_first byte [] = (byte ∷ []) ∷ []
onto_first byte (line ∷ lines) = (byte ∷ line) ∷ lines

-- the lines of a text: each ends with a newline, which the last may lack
abbrev pub lines_of : List ℕ → List (List ℕ)
lines_of [] = []
lines_of (byte ∷ bytes) = if byte == 10 then [] ∷ lines_of bytes else onto_first byte (lines_of bytes)

-- a blank line, or one that begins with `#`
abbrev pub IsLeftOut : List ℕ → Type 0
IsLeftOut [] = Unit {0}
IsLeftOut (byte ∷ bytes) = byte ≡ 35

-- ---- what a line says

-- a blank: a space or a tab
abbrev pub is_blank : ℕ → Bool
is_blank byte = byte == 32 || byte == 9

abbrev pub HasNoBlank : List ℕ → Type 0
HasNoBlank bytes = All (λ byte. is_blank byte ≡ false) bytes

-- these are the 512 hexadecimal digits of the key, two for each byte, of either case
pub record AreDigitsOf (digits key : List ℕ) : Type 0 where
  pub count : length digits ≡ 512
  pub decoded : decode_of digits ≡ Ok key

-- the line has these digits behind the words for a key of this kind, with one blank between two words
abbrev pub IsSpelt : List ℕ → KeyKind → List ℕ → Type 0
IsSpelt line Perm digits = (blank : ℕ) × (is_blank blank ≡ true) × (line ≡ codes "perm" ++ blank ∷ digits)
IsSpelt line (Temp expires) digits =
    (first second : ℕ) × (is_blank first ≡ true) × (is_blank second ≡ true)
    × (line ≡ codes "temp" ++ first ∷ (decimal expires ++ second ∷ digits))

-- a kind that a line can say: a temporary key expires at one of the moments from 1 on
abbrev pub IsSayable : KeyKind → Type 0
IsSayable Perm = Unit {0}
IsSayable (Temp expires) = (1 ≤ expires) × (expires ≤ latest_moment)

-- the line says this key and its kind
pub record Says (line : List ℕ) (entry : RingKey) : Type 0 where
  pub kind : IsSayable entry.kind
  pub digits : List ℕ
  pub spelled : IsSpelt line entry.kind digits
  pub decoded : AreDigitsOf digits entry.key

-- the line is neither left out nor says a key
abbrev pub IsBad : List ℕ → Type 0
IsBad line = (IsLeftOut line → ⊥) × ((entry : RingKey) → Says line entry → ⊥)

-- the lines that aren't left out say these keys, in order
abbrev pub AreKeys : List (List ℕ) → List RingKey → Type 0
AreKeys [] ring = ring ≡ []
AreKeys (line ∷ lines) ring =
    (IsLeftOut line × AreKeys lines ring)
    ⊎ ((entry : RingKey) × (rest : List RingKey) × Says line entry × (ring ≡ entry ∷ rest) × AreKeys lines rest)

-- ---- the ring of a text

-- the text says the keys of this ring, and the ring is lawful
abbrev pub IsRingOf : List ℕ → List RingKey → Type 0
IsRingOf text ring = AreKeys (lines_of text) ring × IsRing ring

-- ---- the fault of a text

-- this line stands among the lines as the one of this number, counted from 1
pub record IsLine (lines : List (List ℕ)) (number : ℕ) (line : List ℕ) : Type 0 where
  pub before : List (List ℕ)
  pub after : List (List ℕ)
  pub split : lines ≡ before ++ line ∷ after
  pub counted : number ≡ length before + 1

-- without a fault the lines before the line of this number say the keys of a ring
pub record Reaches (text : List ℕ) (number : ℕ) (line : List ℕ) (ring : List RingKey) : Type 0 where
  pub at : IsLine (lines_of text) number line
  pub said : AreKeys at.before ring
  pub lawful : IsRing ring

-- the first fault is on the line of this number: the line is bad
pub record HasBadLine (text : List ℕ) (number : ℕ) : Type 0 where
  pub line : List ℕ
  pub ring : List RingKey
  pub reached : Reaches text number line ring
  pub bad : IsBad line

-- the first fault is on the line of this number: it says a key, and 64 stand before it
pub record HasTooMany (text : List ℕ) (number : ℕ) : Type 0 where
  pub line : List ℕ
  pub ring : List RingKey
  pub entry : RingKey
  pub reached : Reaches text number line ring
  pub says : Says line entry
  pub full : length ring ≡ ring_keys_max

-- the first fault is on the line of this number: it says a key whose identifier is that of the key on the line `first`
-- before it, and fewer than 64 keys stand before it
pub record HasSameId (text : List ℕ) (number first : ℕ) : Type 0 where
  pub line : List ℕ
  pub ring : List RingKey
  pub entry : RingKey
  pub first_line : List ℕ
  pub first_entry : RingKey
  pub reached : Reaches text number line ring
  pub says : Says line entry
  pub room : length ring < ring_keys_max
  pub at_first : IsLine reached.at.before first first_line
  pub first_says : Says first_line first_entry
  pub same : identifier first_entry.key ≡ identifier entry.key

-- the fault of the text, memory aside
abbrev pub IsFaultOf : List ℕ → KeyFault → Type 0
IsFaultOf text (BadLine line) = HasBadLine text line
IsFaultOf text (TooMany line) = HasTooMany text line
IsFaultOf text (SameId line first_line) = HasSameId text line first_line
IsFaultOf text Memory = Unit {0}
