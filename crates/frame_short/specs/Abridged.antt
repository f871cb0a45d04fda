-- The abridged form (core.telegram.org/mtproto/mtproto-transports#abridged). Its length field counts words of
-- 4 bytes.
use Rattle.std.specs.Prelude.{◌≡◌, ◌<◌, ◌≤◌, ◌+◌, ◌*◌, ◌/◌, ◌⊎◌, ℕ, nat_lt, if◌then◌else◌, List, [], ◌∷◌, ◌++◌, length, drop, slice_index}
use Rattle.byteorder.specs.Endian.{little_bytes, little_number}
use Rattle.tl_codec.specs.declared.fault.FrameFault.{FrameFault}
use Rattle.tl_codec.specs.declared.fault.FrameFault.TheVariants.{TooLong, BadLength, Sum, Count}
use Rattle.framing.specs.Payload.{payload_max, IsPayload}
use Rattle.framing.specs.Streams.{Form}

-- Below 127 words the length has one byte, else 127 and 3 bytes, little-endian. The second spelling is taken for
-- any length.
abbrev pub short_head : ℕ → List ℕ
short_head words = words ∷ []

abbrev pub long_head : ℕ → List ℕ
long_head words = 127 ∷ little_bytes 3 words

abbrev pub IsHead : ℕ → List ℕ → Type 0
IsHead words head = ((words < 127) × (head ≡ short_head words)) ⊎ (head ≡ long_head words)

-- the bytes are the length and then the payload
pub record AbridgedFrame (packet bytes : List ℕ) : Type 0 where
  pub payload : IsPayload packet
  pub head : List ℕ
  pub says : IsHead (length packet / 4) head
  pub whole : bytes ≡ head ++ packet

-- the spelling that is written
abbrev pub frame_of : List ℕ → List ℕ
frame_of packet = (if nat_lt (length packet / 4) 127 then short_head (length packet / 4) else long_head (length packet / 4)) ++ packet

-- the length field at the front has so many bytes and says so many words
abbrev pub SaysWords : ℕ → ℕ → List ℕ → Type 0
SaysWords head words bytes =
    ((head ≡ 1) × (words < 127) × (1 ≤ length bytes) × (slice_index bytes 0 ≡ words))
    ⊎ ((head ≡ 4) × (slice_index bytes 0 ≡ 127) × (4 ≤ length bytes) × (little_number 3 (drop 1 bytes) ≡ words))

-- The length field isn't whole: no byte, or 127 and fewer than 3 bytes.
abbrev pub AbridgedCut : List ℕ → Type 0
AbridgedCut bytes = (length bytes ≡ 0) ⊎ ((slice_index bytes 0 ≡ 127) × (length bytes < 4))

-- it says one word at least, and not more than a payload has
pub record AbridgedSize (size : ℕ) (bytes : List ℕ) : Type 0 where
  pub head : ℕ
  pub words : ℕ
  pub says : SaysWords head words bytes
  pub some : 0 < words
  pub most : 4 * words ≤ payload_max
  pub whole : size ≡ head + 4 * words

-- it says more than a payload has
pub record AbridgedTooLong (len : ℕ) (bytes : List ℕ) : Type 0 where
  pub head : ℕ
  pub words : ℕ
  pub says : SaysWords head words bytes
  pub past : payload_max < 4 * words
  pub told : len ≡ 4 * words

-- it says that there is no word, or its first byte is 128 or more, which then is what is told
pub record SaysNone (len : ℕ) (bytes : List ℕ) : Type 0 where
  pub head : ℕ
  pub says : SaysWords head 0 bytes
  pub told : len ≡ 0

pub record BeginsNone (len : ℕ) (bytes : List ℕ) : Type 0 where
  pub there : 1 ≤ length bytes
  pub first : 128 ≤ slice_index bytes 0
  pub told : len ≡ slice_index bytes 0

abbrev pub abridged_wrong : FrameFault → List ℕ → Type 0
abridged_wrong (TooLong len) bytes = AbridgedTooLong len bytes
abridged_wrong (BadLength len) bytes = SaysNone len bytes ⊎ BeginsNone len bytes
abridged_wrong (Sum said found) bytes = ⊥
abridged_wrong (Count said want) bytes = ⊥

-- The form. A whole frame shows no fault.
abbrev pub abridged : Form
abridged = record {
  frame = λ i. AbridgedFrame;
  cut = AbridgedCut;
  sized = AbridgedSize;
  wrong = abridged_wrong;
  spoilt = λ i fault bytes. ⊥;
}
