-- What was sealed goes into a frame of each form.
use Rattle.std.proofs.Common.{◌≡◌, ◌≤◌, ◌+◌, ◌%◌, inr, ℕ, Bool, true, false, List, length, nat_eq, ap, arith}
use Rattle.auth_keys.specs.declared.ring.RingKey.{RingKey}
use Rattle.envelope.specs.declared.parts.Dir.{Dir}
use Rattle.envelope.specs.declared.parts.Envelope.{Envelope}
use Rattle.envelope.specs.Lawful.{OpensWhatItSealed}
use Rattle.envelope.specs.Packet.{Lock, Sealed}
use Rattle.frame_len.specs.Lengths.{IsWritten}
use Rattle.transport.specs.declared.form.Form.TheVariants.{Abridged, Intermediate, Padded, Full}
use Rattle.kifzaro.specs.Fitting.{Fits}

-- its size: 24 bytes and whole blocks of 16, three or more
record IsSize (size : ℕ) : Type 0 where
  pub least : 72 ≤ size
  pub most : size ≤ 1048576
  pub blocks : size % 16 ≡ 8

written : (packet : List ℕ) (padded : Bool) → IsSize (length packet) → IsWritten padded packet
written packet true is =
    record {
      fits = record { some = omega (arith, is.least); most = is.most; words = omega (arith, is.blocks) };
      size = inr (omega (arith, is.least), is.blocks);
    }
written packet false is = record { fits = record { some = omega (arith, is.least); most = is.most; words = omega (arith, is.blocks) }; size = tt }

pub fitting : (packet : List ℕ) → 72 ≤ length packet → length packet ≤ 1048576 → length packet % 16 ≡ 8 → Fits packet
fitting packet least most blocks Abridged = written packet false (record { least = least; most = most; blocks = blocks })
fitting packet least most blocks Intermediate = written packet false (record { least = least; most = most; blocks = blocks })
fitting packet least most blocks Padded = written packet true (record { least = least; most = most; blocks = blocks })
fitting packet least most blocks Full = written packet false (record { least = least; most = most; blocks = blocks })

-- 24 bytes, and whole blocks of 16 of which 44 bytes stand there

least_of : (size plain : ℕ) → size ≡ 24 + plain → 44 ≤ plain → plain % 16 ≡ 0 → 72 ≤ size
least_of size plain whole some blocks = omega (arith, whole, some, blocks)

blocks_of : (size plain : ℕ) → size ≡ 24 + plain → plain % 16 ≡ 0 → size % 16 ≡ 8
blocks_of size plain whole blocks = omega (arith, whole, blocks)

pub least_sealed : (lock : Lock) (ring : List RingKey) (dir : Dir) (envelope : Envelope) (padding packet : List ℕ)
    → OpensWhatItSealed lock → Sealed lock ring dir envelope padding packet → 72 ≤ length packet
least_sealed lock ring dir envelope padding packet opens sealed =
    let size = opens.size ring dir envelope padding packet sealed in
    let least = sealed.padded.least in
    least_of (length packet) (32 + length envelope.body + length padding) (omega (arith, size)) (omega (arith, least)) sealed.padded.blocks

pub most_sealed : (lock : Lock) (ring : List RingKey) (dir : Dir) (envelope : Envelope) (padding packet : List ℕ)
    → Sealed lock ring dir envelope padding packet → length packet ≤ 1048576
most_sealed lock ring dir envelope padding packet sealed = sealed.fits

pub blocks_sealed : (lock : Lock) (ring : List RingKey) (dir : Dir) (envelope : Envelope) (padding packet : List ℕ)
    → OpensWhatItSealed lock → Sealed lock ring dir envelope padding packet → nat_eq (length packet % 16) 8 ≡ true
blocks_sealed lock ring dir envelope padding packet opens sealed =
    let size = opens.size ring dir envelope padding packet sealed in
    ap (λ (rest : ℕ). nat_eq rest 8) (blocks_of (length packet) (32 + length envelope.body + length padding) (omega (arith, size)) sealed.padded.blocks)
