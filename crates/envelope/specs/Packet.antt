-- Packets (core.telegram.org/mtproto/description, "Encrypted Message"): an envelope's plain text, and the
-- packet that it makes under a key.
use Rattle.std.specs.Prelude.{◌≡◌, ℕ, ◌<◌, ◌≤◌, ◌+◌, ◌-◌, ◌%◌, ◌^◌, List, ◌++◌, length, drop, Some}
use Rattle.byteorder.specs.Endian.{little_bytes}
use Rattle.octets.specs.Bytes.{IsBytes}
use Rattle.auth_keys.specs.Rings.{entry_of}
use Rattle.auth_keys.specs.declared.ring.RingKey.{RingKey}
use Rattle.envelope.specs.declared.parts.Dir.{Dir}
use Rattle.envelope.specs.declared.parts.Envelope.{Envelope}
use Rattle.envelope.specs.declared.parts.Head.{Head}

-- ---- limits

-- the padding has 12 to 1,024 bytes
abbrev pub padding_min : ℕ
padding_min = 12

abbrev pub padding_max : ℕ
padding_max = 1024

-- the shortest packet has no body and 16 bytes of padding; or a body of 4 bytes and 12 of padding
abbrev pub packet_min : ℕ
packet_min = 72

-- the longest packet: 1 MiB, the most that a transport carries
abbrev pub packet_max : ℕ
packet_max = 1048576

-- the longest body that is sealed
abbrev pub body_max : ℕ
body_max = 1044480

-- in front of the text of a packet: the key's identifier and the message key
abbrev pub packet_head : ℕ
packet_head = 24

-- in front of the body: salt, session, number, sequence number and the body's length
abbrev pub plain_head : ℕ
plain_head = 32

-- the cipher's block
abbrev pub block_bytes : ℕ
block_bytes = 16

-- ---- what may be sealed

-- the envelope with this head and this body
abbrev pub envelope_with : Head → List ℕ → Envelope
envelope_with head body =
    record {
      key = head.key;
      salt = head.salt;
      session = head.session;
      number = head.number;
      seq = head.seq;
      body = body;
    }

-- the body in a text that is sealed where it stands: behind the 56 bytes that a packet has in front of it
abbrev pub to_seal : List ℕ → List ℕ
to_seal text = drop 56 text

-- the numbers of an envelope have 64 bits, its sequence number 32, and its body is whole words of 4 bytes
pub record IsEnvelope (envelope : Envelope) : Type 0 where
  pub key : envelope.key < 2 ^ 64
  pub salt : envelope.salt < 2 ^ 64
  pub session : envelope.session < 2 ^ 64
  pub number : envelope.number < 2 ^ 64
  pub seq : envelope.seq < 2 ^ 32
  pub bytes : IsBytes envelope.body
  pub words : length envelope.body % 4 ≡ 0

-- the padding behind a body of so many bytes: 12 to 1,024 bytes, and with it the plain text is whole blocks
pub record IsPadding (body : ℕ) (padding : List ℕ) : Type 0 where
  pub least : padding_min ≤ length padding
  pub most : length padding ≤ padding_max
  pub bytes : IsBytes padding
  pub blocks : (plain_head + body + length padding) % block_bytes ≡ 0

-- the least padding of at least 12 bytes with which the plain text is whole blocks
abbrev pub least_padding : ℕ → ℕ
least_padding body = padding_min + (block_bytes - (plain_head + body + padding_min) % block_bytes) % block_bytes

-- how long the packet of a body is with this padding
abbrev pub sealed_size : ℕ → ℕ
sealed_size body = packet_head + plain_head + body + least_padding body

-- ---- the packet

-- salt, session identifier, message identifier, sequence number, length, body, padding
unfoldable pub plain_text : Envelope → List ℕ → List ℕ
plain_text envelope padding =
    little_bytes 8 envelope.salt ++ (little_bytes 8 envelope.session ++ (little_bytes 8 envelope.number
    ++ (little_bytes 4 envelope.seq ++ (little_bytes 4 (length envelope.body) ++ (envelope.body ++ padding)))))

-- What a seal does with a plain text, by the bytes of the key and the direction: the 16 bytes of the message key, and
-- the text under the message key; and the plain text of such a text.
pub record Lock : Type 0 where
  pub message_key : List ℕ → Dir → List ℕ → List ℕ
  pub locked : List ℕ → Dir → List ℕ → List ℕ → List ℕ
  pub unlocked : List ℕ → Dir → List ℕ → List ℕ → List ℕ

-- a packet: the key's identifier, the message key, and the text
abbrev pub packet_of : Lock → List ℕ → Dir → Envelope → List ℕ → List ℕ
packet_of lock key dir envelope padding =
    let plain = plain_text envelope padding in
    let message_key = lock.message_key key dir plain in
    little_bytes 8 envelope.key ++ (message_key ++ lock.locked key dir message_key plain)

-- The packet is the envelope with this padding, sealed in this direction under the key of the ring that the envelope
-- names.
pub record Sealed (lock : Lock) (ring : List RingKey) (dir : Dir) (envelope : Envelope) (padding packet : List ℕ) : Type 0 where
  pub entry : RingKey
  pub found : entry_of envelope.key ring ≡ Some entry
  pub lawful : IsEnvelope envelope
  pub padded : IsPadding (length envelope.body) padding
  pub spelled : packet ≡ packet_of lock entry.key dir envelope padding
  pub fits : length packet ≤ packet_max
