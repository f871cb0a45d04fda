-- What a packet opens to, worked out: the envelope and the padding that its text spells under the key that it names, where
-- these, sealed again, are the packet (core.telegram.org/mtproto/description, "Encrypted Message").
use Rattle.std.specs.Prelude.{bytes_eq, ℕ, ◌+◌, ◌%◌, ◌==◌, ◌&&◌, nat_le, nat_lt, Bool, true, if◌then◌else◌, Option, Some, None, List, drop, length}
use Rattle.auth_keys.specs.Rings.{entry_of}
use Rattle.auth_keys.specs.declared.key.KeyKind.{KeyKind}
use Rattle.auth_keys.specs.declared.key.KeyKind.TheVariants.{Perm, Temp}
use Rattle.auth_keys.specs.declared.ring.RingKey.{RingKey}
use Rattle.envelope.specs.declared.parts.Dir.{Dir}
use Rattle.envelope.specs.declared.parts.Envelope.{Envelope}
use Rattle.envelope.specs.Opening.{key_named, length_said, message_key_said, text_of}
use Rattle.envelope.specs.Packet.{Lock, packet_of}
use Rattle.envelope.specs.Reading.{envelope_in}
use Rattle.ring_rules.specs.Bytes.{are_bytes, is_int, is_long}

-- a key of this kind is good at this moment
abbrev pub is_good_at : ℕ → KeyKind → Bool
is_good_at now Perm = true
is_good_at now (Temp expires) = nat_lt now expires

-- it may be sealed
abbrev pub is_envelope : Envelope → Bool
is_envelope envelope =
    is_long envelope.key && (is_long envelope.salt && (is_long envelope.session && (is_long envelope.number
    && (is_int envelope.seq && (are_bytes envelope.body && (length envelope.body % 4 == 0))))))

-- it may stand behind a body of so many bytes
abbrev pub is_padding : ℕ → List ℕ → Bool
is_padding body padding =
    nat_le 12 (length padding) && (nat_le (length padding) 1024 && (are_bytes padding && ((32 + body + length padding) % 16 == 0)))

-- the packet is this envelope with this padding, sealed under the key
abbrev pub is_sealed : Lock → List ℕ → Dir → Envelope → List ℕ → List ℕ → Bool
is_sealed lock key dir envelope padding packet =
    bytes_eq packet (packet_of lock key dir envelope padding)
    && (is_envelope envelope && (is_padding (length envelope.body) padding && nat_le (length packet) 1048576))

-- the plain text of a packet under a key
abbrev pub plain_in : Lock → List ℕ → Dir → List ℕ → List ℕ
plain_in lock key dir packet = lock.unlocked key dir (message_key_said packet) (text_of packet)

-- the padding that a plain text has behind its body
abbrev pub padding_in : List ℕ → List ℕ
padding_in plain = drop (length_said plain) (drop 32 plain)

abbrev pub opened_under : Lock → ℕ → Dir → List ℕ → Option RingKey → Option Envelope
opened_under lock now dir packet None = None
opened_under lock now dir packet (Some entry) =
    let plain = plain_in lock entry.key dir packet in
    let envelope = envelope_in (key_named packet) plain in
    if is_good_at now entry.kind && is_sealed lock entry.key dir envelope (padding_in plain) packet then Some envelope else None

-- what the packet opens to at this moment in this direction, if it opens
unfoldable pub opened : Lock → List RingKey → ℕ → Dir → List ℕ → Option Envelope
opened lock ring now dir packet = opened_under lock now dir packet (entry_of (key_named packet) ring)
