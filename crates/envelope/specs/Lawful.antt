-- What the layers above need of a seal.
use Rattle.std.specs.Prelude.{◌≡◌, ℕ, ◌+◌, List, length}
use Rattle.auth_keys.specs.declared.ring.RingKey.{RingKey}
use Rattle.envelope.specs.declared.parts.Dir.{Dir}
use Rattle.envelope.specs.declared.parts.Envelope.{Envelope}
use Rattle.envelope.specs.declared.refusal.Refusal.{Refusal}
use Rattle.envelope.specs.declared.refusal.Refusal.TheVariants.{NoKey}
use Rattle.envelope.specs.Packet.{Lock, Sealed, packet_head, plain_head}
use Rattle.envelope.specs.Opening.{Opens, IsGoodKey, IsRefused}

-- A seal opens what it sealed: for every ring, at every now and in each direction.
pub record OpensWhatItSealed (lock : Lock) : Type 0 where
  -- what was sealed has its two heads, the body and the padding
  pub size : (ring : List RingKey) (dir : Dir) (envelope : Envelope) (padding packet : List ℕ)
      → Sealed lock ring dir envelope padding packet
      → length packet ≡ packet_head + plain_head + length envelope.body + length padding
  -- a packet opens to one envelope at most, and to none where it is refused
  pub one_envelope : (ring : List RingKey) (now : ℕ) (dir : Dir) (packet : List ℕ) (envelope other : Envelope)
      → Opens lock ring now dir packet envelope → Opens lock ring now dir packet other → envelope ≡ other
  pub not_both : (ring : List RingKey) (now : ℕ) (dir : Dir) (packet : List ℕ) (envelope : Envelope) (refusal : Refusal)
      → Opens lock ring now dir packet envelope → IsRefused lock ring now dir packet refusal → ⊥
  -- what was sealed opens where the key is permanent or expires later, to the same envelope and to no other
  pub opens : (ring : List RingKey) (now : ℕ) (dir : Dir) (envelope : Envelope) (padding packet : List ℕ) (entry : RingKey)
      → Sealed lock ring dir envelope padding packet → IsGoodKey ring now envelope.key entry
      → Opens lock ring now dir packet envelope
  pub no_other : (ring : List RingKey) (now : ℕ) (dir : Dir) (envelope : Envelope) (padding packet : List ℕ) (other : Envelope)
      → Sealed lock ring dir envelope padding packet → Opens lock ring now dir packet other → envelope ≡ other
  -- at every other now it is refused
  pub refused_otherwise : (ring : List RingKey) (now : ℕ) (dir : Dir) (envelope : Envelope) (padding packet : List ℕ)
      → Sealed lock ring dir envelope padding packet → ((entry : RingKey) → IsGoodKey ring now envelope.key entry → ⊥)
      → IsRefused lock ring now dir packet (NoKey envelope.key)
