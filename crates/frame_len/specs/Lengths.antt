-- The intermediate form and the padded one (core.telegram.org/mtproto/mtproto-transports#intermediate and
-- #padded-intermediate). The length has 4 bytes, little-endian, and counts bytes.
use Rattle.std.specs.Prelude.{◌≡◌, ◌<◌, ◌≤◌, ◌+◌, ◌-◌, ◌*◌, ◌/◌, ◌%◌, ◌⊎◌, ℕ, nat_lt, if◌then◌else◌, Bool, true, false, List, ◌++◌, length}
use Rattle.std.specs.Bool.{OnTrue}
use Rattle.byteorder.specs.Endian.{little_bytes, little_number}
use Rattle.tl_codec.specs.declared.fault.FrameFault.{FrameFault}
use Rattle.tl_codec.specs.declared.fault.FrameFault.TheVariants.{TooLong, BadLength, Sum, Count}
use Rattle.framing.specs.Payload.{payload_max, IsPayload}
use Rattle.framing.specs.Streams.{Form}

-- the spelling that is written in both forms: the length of the payload, and the payload
abbrev pub frame_of : List ℕ → List ℕ
frame_of packet = little_bytes 4 (length packet) ++ packet

-- ---- the intermediate form

pub record IntermediateFrame (packet bytes : List ℕ) : Type 0 where
  pub payload : IsPayload packet
  pub whole : bytes ≡ frame_of packet

-- ---- the padded form

-- In the padded form a payload has 4 bytes, or 24 and a multiple of 16 more, as every transport error and every
-- sealed packet has.
abbrev pub IsPaddedSize : ℕ → Type 0
IsPaddedSize size = (size ≡ 4) ⊎ ((24 ≤ size) × (size % 16 ≡ 8))

-- the most bytes of padding: 15, and 19 behind a payload of 4 bytes
abbrev pub padding_max : ℕ → ℕ
padding_max size = if nat_lt size 24 then 19 else 15

-- the bytes are the length of payload and padding, the payload, and any padding
pub record PaddedFrame (packet bytes : List ℕ) : Type 0 where
  pub payload : IsPayload packet
  pub size : IsPaddedSize (length packet)
  pub padding : List ℕ
  pub few : length padding ≤ padding_max (length packet)
  pub whole : bytes ≡ little_bytes 4 (length packet + length padding) ++ (packet ++ padding)

-- How many bytes of payload stand behind a length, which is that of payload and padding: below 24 the first 4, else
-- the first 24 + 16 k for the largest k that fits.
abbrev pub padded_payload : ℕ → ℕ
padded_payload len = if nat_lt len 24 then 4 else 24 + 16 * ((len - 24) / 16)

-- ---- both, by whether there is padding

abbrev pub LenFrame : Bool → List ℕ → List ℕ → Type 0
LenFrame false = IntermediateFrame
LenFrame true = PaddedFrame

abbrev pub payload_of : Bool → ℕ → ℕ
payload_of false len = len
payload_of true len = padded_payload len

-- what a writer takes
pub record IsWritten (padded : Bool) (payload : List ℕ) : Type 0 where
  pub fits : IsPayload payload
  pub size : OnTrue padded (IsPaddedSize (length payload))

-- the greatest length: the longest payload, in the padded form the longest of 24 + 16 k bytes and 15
abbrev pub length_max : Bool → ℕ
length_max false = payload_max
length_max true = 1048583

-- no frame has such a length, be it ever so short
abbrev pub IsBad : Bool → ℕ → Type 0
IsBad false len = (len ≡ 0) ⊎ (0 < len % 4)
IsBad true len = len < 4

-- the length field stands at the front and says so much
pub record Says (len : ℕ) (bytes : List ℕ) : Type 0 where
  pub there : 4 ≤ length bytes
  pub is : len ≡ little_number 4 bytes

-- it says what a frame has: so many bytes with its own 4
pub record LenSize (padded : Bool) (size : ℕ) (bytes : List ℕ) : Type 0 where
  pub len : ℕ
  pub says : Says len bytes
  pub most : len ≤ length_max padded
  pub good : IsBad padded len → ⊥
  pub whole : size ≡ 4 + len

-- it says more than the longest frame has
pub record LenTooLong (padded : Bool) (len : ℕ) (bytes : List ℕ) : Type 0 where
  pub says : Says len bytes
  pub past : length_max padded < len

-- it says no more than that, and what no frame has
pub record LenBad (padded : Bool) (len : ℕ) (bytes : List ℕ) : Type 0 where
  pub says : Says len bytes
  pub most : len ≤ length_max padded
  pub bad : IsBad padded len

abbrev pub len_wrong : Bool → FrameFault → List ℕ → Type 0
len_wrong padded (TooLong len) bytes = LenTooLong padded len bytes
len_wrong padded (BadLength len) bytes = LenBad padded len bytes
len_wrong padded (Sum said found) bytes = ⊥
len_wrong padded (Count said want) bytes = ⊥

-- The forms. A whole frame shows no fault.
abbrev pub form_of : Bool → Form
form_of padded = record {
  frame = λ i. LenFrame padded;
  cut = λ bytes. length bytes < 4;
  sized = LenSize padded;
  wrong = len_wrong padded;
  spoilt = λ i fault bytes. ⊥;
}

abbrev pub intermediate : Form
intermediate = form_of false

abbrev pub padded : Form
padded = form_of true
