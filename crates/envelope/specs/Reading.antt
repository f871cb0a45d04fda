-- The envelope that a plain text spells, field by field: scaffolding for the proofs, and no promise. The code reads
-- these fields; what a packet opens to is said by sealing alone.
use Rattle.std.specs.Prelude.{◌≡◌, ℕ, List, take, drop}
use Rattle.byteorder.specs.Endian.{little_number}
use Rattle.auth_keys.specs.declared.ring.RingKey.{RingKey}
use Rattle.envelope.specs.declared.parts.Dir.{Dir}
use Rattle.envelope.specs.declared.parts.Envelope.{Envelope}
use Rattle.envelope.specs.declared.refusal.Refusal.{Refusal}
use Rattle.envelope.specs.declared.refusal.Refusal.TheVariants as refusals
use Rattle.envelope.specs.Packet.{Lock, Sealed}
use Rattle.envelope.specs.Opening.{key_named, length_said, message_key_said, padding_left, text_of, IsBodyLength, IsPaddingLength}

unfoldable pub envelope_in : ℕ → List ℕ → Envelope
envelope_in key plain = record {
  key = key;
  salt = little_number 8 plain;
  session = little_number 8 (drop 8 plain);
  number = little_number 8 (drop 16 plain);
  seq = little_number 4 (drop 24 plain);
  body = take (length_said plain) (drop 32 plain);
}

-- a packet that was sealed names the envelope's key, and its text, unlocked under that key, spells the envelope, with the
-- padding behind the body
pub record ReadsBack (lock : Lock) : Type 0 where
  pub named : (ring : List RingKey) (dir : Dir) (envelope : Envelope) (padding packet : List ℕ) → Sealed lock ring dir envelope padding packet
      → key_named packet ≡ envelope.key
  pub envelope : (ring : List RingKey) (dir : Dir) (envelope : Envelope) (padding packet : List ℕ) → (sealed : Sealed lock ring dir envelope padding packet)
      → envelope_in envelope.key (lock.unlocked sealed.entry.key dir (message_key_said packet) (text_of packet)) ≡ envelope
  pub padding : (ring : List RingKey) (dir : Dir) (envelope : Envelope) (padding packet : List ℕ) → (sealed : Sealed lock ring dir envelope padding packet)
      → (plain : List ℕ) → plain ≡ lock.unlocked sealed.entry.key dir (message_key_said packet) (text_of packet)
      → drop (length_said plain) (drop 32 plain) ≡ padding

-- the plain text has a body and padding
pub record IsWhole (plain : List ℕ) : Type 0 where
  pub body : IsBodyLength plain (length_said plain)
  pub padding : IsPaddingLength (padding_left plain)

-- why a plain text is refused
abbrev pub IsPlainRefused : List ℕ → Refusal → Type 0
IsPlainRefused plain (refusals.Size len) = ⊥
IsPlainRefused plain (refusals.NoKey id) = ⊥
IsPlainRefused plain (refusals.KeyMismatch said found) = ⊥
IsPlainRefused plain (refusals.Length said) = (said ≡ length_said plain) × (IsBodyLength plain said → ⊥)
IsPlainRefused plain (refusals.Padding bytes) =
    IsBodyLength plain (length_said plain) × ((bytes ≡ padding_left plain) × (IsPaddingLength bytes → ⊥))
