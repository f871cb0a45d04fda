-- What opens at an end was sealed by the other.
use Rattle.std.proofs.Common.{◌≡◌, ℕ, List, Some, sym, ap, ◌∙◌, arith}
use Rattle.auth_keys.specs.declared.ring.RingKey.{RingKey}
use Rattle.envelope.specs.declared.parts.Dir.{Dir}
use Rattle.envelope.specs.declared.parts.Envelope.{Envelope}
use Rattle.envelope.specs.Lawful.{OpensWhatItSealed}
use Rattle.envelope.specs.Opening.{Opens}
use Rattle.envelope.specs.Packet.{Lock}
use Rattle.world_rules.specs.Setting.{Setting}
use Rattle.world_rules.specs.World.{Packet, World, bytes_of}
use Rattle.world_rules.specs.Premises.{IsSealed, OpensOnly}
use Rattle.law_packets.specs.Lawful.{AreLawfulPackets, IsSealedPacket}
use Rattle.law_once.specs.Made.{IsOfPacket, IsShort}
use Rattle.law_once.proofs.Lists.{each_of}

module _ {S V : Type 0} (lock : Lock) (ring : List RingKey) (setting : Setting S V) (seals : OpensWhatItSealed lock) (so : IsSealed lock ring setting) where
  opened : (now : ℕ) (dir : Dir) (bytes : List ℕ) (envelope : Envelope) → setting.opens now dir bytes ≡ Some envelope → Opens lock ring now dir bytes envelope
  opened now dir bytes envelope is = (so.opens now dir bytes envelope).0 is

  pub given_made : (now : ℕ) (packet : Packet) (envelope : Envelope) → IsSealedPacket lock ring setting packet
      → setting.opens now packet.dir (bytes_of setting packet) ≡ Some envelope → packet.envelope ≡ envelope
  given_made now packet envelope sealed is =
      seals.no_other ring now packet.dir packet.envelope packet.padding (bytes_of setting packet) envelope sealed (opened now packet.dir (bytes_of setting packet) envelope is)

  pub foreign_made : (world : World S V) (now : ℕ) (dir : Dir) (bytes : List ℕ) (envelope : Envelope) → AreLawfulPackets lock ring setting world → OpensOnly setting world now dir bytes
      → setting.opens now dir bytes ≡ Some envelope → IsOfPacket world dir envelope
  foreign_made world now dir bytes envelope lawful only is =
      let was = only envelope is in
      let packet : Packet = was.packet in
      record {
        packet = packet;
        made = was.made;
        way = was.way;
        same = given_made now packet envelope (each_of (IsSealedPacket lock ring setting) world.bag lawful packet was.made)
            (ap (λ (d : Dir). setting.opens now d (bytes_of setting packet)) was.way ∙ ap (λ (b : List ℕ). setting.opens now dir b) (sym was.same) ∙ is);
      }

  pub opened_short : (now : ℕ) (dir : Dir) (bytes : List ℕ) (envelope : Envelope) → setting.opens now dir bytes ≡ Some envelope → IsShort envelope
  opened_short now dir bytes envelope is =
      let opens = opened now dir bytes envelope is in
      record {
        lawful = opens.sealed.lawful;
        body = omega (arith, seals.size ring dir envelope opens.padding bytes opens.sealed, opens.sealed.fits);
      }
