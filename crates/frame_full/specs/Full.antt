-- The full form (core.telegram.org/mtproto/mtproto-transports#full). Each number has 4 bytes, little-endian.
use Rattle.std.specs.Prelude.{◌≡◌, ◌≢◌, ◌<◌, ◌≤◌, ◌+◌, ◌-◌, ◌%◌, ◌^◌, ◌⊎◌, ℕ, List, ◌++◌, length, take, drop}
use Rattle.byteorder.specs.Endian.{little_bytes, little_number}
use Rattle.crc_core.specs.Crc32.{crc32}
use Rattle.tl_codec.specs.declared.fault.FrameFault.{FrameFault}
use Rattle.tl_codec.specs.declared.fault.FrameFault.TheVariants.{TooLong, BadLength, Sum, Count}
use Rattle.framing.specs.Payload.{payload_max, IsPayload}
use Rattle.framing.specs.Streams.{Form}

-- the bytes of a frame beside its payload: length, number and sum
abbrev pub overhead : ℕ
overhead = 12

-- all before the sum: how many bytes the frame has, its number, and its payload
abbrev pub body_of : ℕ → List ℕ → List ℕ
body_of i packet = little_bytes 4 (length packet + overhead) ++ (little_bytes 4 i ++ packet)

-- the bytes are the body and then its check in 4 bytes
pub record FullFrame (i : ℕ) (packet bytes : List ℕ) : Type 0 where
  pub payload : IsPayload packet
  pub number : i < 2 ^ 32
  pub sum : List ℕ
  pub four : length sum ≡ 4
  pub checked : little_number 4 sum ≡ crc32 (body_of i packet)
  pub whole : bytes ≡ body_of i packet ++ sum

-- the spelling that is written
abbrev pub frame_of : ℕ → List ℕ → List ℕ
frame_of i packet = body_of i packet ++ little_bytes 4 (crc32 (body_of i packet))

-- the length field says how many bytes the frame has: those of a payload and 12
pub record FullSize (size : ℕ) (bytes : List ℕ) : Type 0 where
  pub there : 4 ≤ length bytes
  pub says : size ≡ little_number 4 bytes
  pub least : 16 ≤ size
  pub most : size ≤ payload_max + overhead
  pub words : size % 4 ≡ 0

-- it says more than the longest payload has, and 12
pub record FullTooLong (len : ℕ) (bytes : List ℕ) : Type 0 where
  pub there : 4 ≤ length bytes
  pub says : len ≡ little_number 4 bytes
  pub past : payload_max + overhead < len

-- it says less than the shortest has, and 12, or no multiple of 4
pub record FullBadLength (len : ℕ) (bytes : List ℕ) : Type 0 where
  pub there : 4 ≤ length bytes
  pub says : len ≡ little_number 4 bytes
  pub most : len ≤ payload_max + overhead
  pub bad : (len < 16) ⊎ (0 < len % 4)

abbrev pub full_wrong : FrameFault → List ℕ → Type 0
full_wrong (TooLong len) bytes = FullTooLong len bytes
full_wrong (BadLength len) bytes = FullBadLength len bytes
full_wrong (Sum said found) bytes = ⊥
full_wrong (Count said want) bytes = ⊥

-- the check that a frame carries, and that of all before it
abbrev pub sum_in : List ℕ → ℕ
sum_in bytes = little_number 4 (drop (length bytes - 4) bytes)

abbrev pub sum_due : List ℕ → ℕ
sum_due bytes = crc32 (take (length bytes - 4) bytes)

-- the number that it carries
abbrev pub number_in : List ℕ → ℕ
number_in bytes = little_number 4 (drop 4 bytes)

pub record WrongSum (carried found : ℕ) (bytes : List ℕ) : Type 0 where
  pub carries : carried ≡ sum_in bytes
  pub has : found ≡ sum_due bytes
  pub apart : carried ≢ found

-- the sum comes first: a number counts where the sum is right
pub record WrongNumber (i carried due : ℕ) (bytes : List ℕ) : Type 0 where
  pub checked : sum_in bytes ≡ sum_due bytes
  pub carries : carried ≡ number_in bytes
  pub next : due ≡ i
  pub apart : carried ≢ due

abbrev pub full_spoilt : ℕ → FrameFault → List ℕ → Type 0
full_spoilt i (TooLong len) bytes = ⊥
full_spoilt i (BadLength len) bytes = ⊥
full_spoilt i (Sum said found) bytes = WrongSum said found bytes
full_spoilt i (Count said want) bytes = WrongNumber i said want bytes

abbrev pub full : Form
full = record {
  frame = FullFrame;
  cut = λ bytes. length bytes < 4;
  sized = FullSize;
  wrong = full_wrong;
  spoilt = full_spoilt;
}
