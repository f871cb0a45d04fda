-- What a packet opens to, and why one doesn't open (core.telegram.org/mtproto/security_guidelines).
use Rattle.std.specs.Prelude.{◌≡◌, ◌≢◌, ℕ, ◌≤◌, ◌-◌, ◌%◌, List, length, drop, Some}
use Rattle.byteorder.specs.Endian.{little_number}
use Rattle.auth_keys.specs.Keys.{IsGoodAt}
use Rattle.auth_keys.specs.Rings.{entry_of}
use Rattle.auth_keys.specs.declared.ring.RingKey.{RingKey}
use Rattle.auth_keys.specs.Keys.{substr}
use Rattle.envelope.specs.declared.parts.Dir.{Dir}
use Rattle.envelope.specs.declared.parts.Envelope.{Envelope}
use Rattle.envelope.specs.declared.refusal.Refusal.{Refusal}
use Rattle.envelope.specs.declared.refusal.Refusal.TheVariants as refusals
use Rattle.envelope.specs.Packet.{Lock, Sealed, packet_min, packet_max, packet_head, plain_head, block_bytes, padding_min, padding_max}

-- The packet is this envelope, sealed in this direction under a key that is permanent or expires after now.
pub record Opens (lock : Lock) (ring : List RingKey) (now : ℕ) (dir : Dir) (packet : List ℕ) (envelope : Envelope) : Type 0 where
  pub padding : List ℕ
  pub sealed : Sealed lock ring dir envelope padding packet
  pub good : IsGoodAt now sealed.entry.kind

-- ---- The five cases of a refusal. The first that holds decides, so that each case has what the cases before it
-- leave.

-- 72 to 1,048,576 bytes, whose text is whole blocks
pub record IsPacketSize (size : ℕ) : Type 0 where
  pub least : packet_min ≤ size
  pub most : size ≤ packet_max
  pub blocks : (size - packet_head) % block_bytes ≡ 0

-- the key of this identifier, which is permanent or expires after now
pub record IsGoodKey (ring : List RingKey) (now id : ℕ) (entry : RingKey) : Type 0 where
  pub found : entry_of id ring ≡ Some entry
  pub good : IsGoodAt now entry.kind

-- the parts of a packet: the key's identifier, the message key, and the text
abbrev pub key_named : List ℕ → ℕ
key_named packet = little_number 8 packet

abbrev pub message_key_said : List ℕ → List ℕ
message_key_said packet = substr packet 8 16

abbrev pub text_of : List ℕ → List ℕ
text_of packet = drop packet_head packet

-- the length that a plain text says of its body, and what follows a body of that length
abbrev pub length_said : List ℕ → ℕ
length_said plain = little_number 4 (drop 28 plain)

abbrev pub padding_left : List ℕ → ℕ
padding_left plain = length plain - plain_head - length_said plain

-- whole words of 4 bytes, and no more than there are behind the head
pub record IsBodyLength (plain : List ℕ) (said : ℕ) : Type 0 where
  pub words : said % 4 ≡ 0
  pub within : said ≤ length plain - plain_head

pub record IsPaddingLength (count : ℕ) : Type 0 where
  pub least : padding_min ≤ count
  pub most : count ≤ padding_max

-- the packet has a lawful size, and this is its good key
pub record HasKey (ring : List RingKey) (now : ℕ) (packet : List ℕ) (entry : RingKey) : Type 0 where
  pub size : IsPacketSize (length packet)
  pub key : IsGoodKey ring now (key_named packet) entry

-- and this is its plain text under the key, whose message key is the packet's
pub record HasPlain (lock : Lock) (ring : List RingKey) (now : ℕ) (dir : Dir) (packet plain : List ℕ) : Type 0 where
  pub entry : RingKey
  pub under : HasKey ring now packet entry
  pub text : plain ≡ lock.unlocked entry.key dir (message_key_said packet) (text_of packet)
  pub message_key : message_key_said packet ≡ lock.message_key entry.key dir plain

-- no good key has the identifier
pub record IsNoKey (ring : List RingKey) (now : ℕ) (packet : List ℕ) (id : ℕ) : Type 0 where
  pub size : IsPacketSize (length packet)
  pub named : id ≡ key_named packet
  pub none : (entry : RingKey) → IsGoodKey ring now id entry → ⊥

-- the message key of the plain text isn't the packet's
pub record IsKeyMismatch (lock : Lock) (ring : List RingKey) (now : ℕ) (dir : Dir) (packet said found : List ℕ) : Type 0 where
  pub entry : RingKey
  pub under : HasKey ring now packet entry
  pub said_is : said ≡ message_key_said packet
  pub found_is : found ≡ lock.message_key entry.key dir (lock.unlocked entry.key dir said (text_of packet))
  pub apart : said ≢ found

-- the body's said length isn't whole words, or there isn't as much
pub record IsWrongLength (lock : Lock) (ring : List RingKey) (now : ℕ) (dir : Dir) (packet : List ℕ) (said : ℕ) : Type 0 where
  pub plain : List ℕ
  pub opened : HasPlain lock ring now dir packet plain
  pub said_is : said ≡ length_said plain
  pub wrong : IsBodyLength plain said → ⊥

-- what follows the body has fewer than 12 or more than 1,024 bytes
pub record IsWrongPadding (lock : Lock) (ring : List RingKey) (now : ℕ) (dir : Dir) (packet : List ℕ) (count : ℕ) : Type 0 where
  pub plain : List ℕ
  pub opened : HasPlain lock ring now dir packet plain
  pub right_length : IsBodyLength plain (length_said plain)
  pub counted : count ≡ padding_left plain
  pub wrong : IsPaddingLength count → ⊥

-- the packet is refused for this
abbrev pub IsRefused : Lock → List RingKey → ℕ → Dir → List ℕ → Refusal → Type 0
IsRefused lock ring now dir packet (refusals.Size len) = (len ≡ length packet) × (IsPacketSize len → ⊥)
IsRefused lock ring now dir packet (refusals.NoKey id) = IsNoKey ring now packet id
IsRefused lock ring now dir packet (refusals.KeyMismatch said found) = IsKeyMismatch lock ring now dir packet said found
IsRefused lock ring now dir packet (refusals.Length said) = IsWrongLength lock ring now dir packet said
IsRefused lock ring now dir packet (refusals.Padding bytes) = IsWrongPadding lock ring now dir packet bytes
