-- What is worked out of a ring is what the ring says.
use Rattle.std.proofs.Common.{◌≡◌, ◌↔◌, ℕ, Option, Some, None, List, refl, sym, ap, ◌∙◌}
use Rattle.octets.specs.Bytes.{IsBytes}
use Rattle.auth_keys.specs.declared.ring.RingKey.{RingKey}
use Rattle.envelope.specs.declared.parts.Dir.TheVariants.{Down, Up}
use Rattle.envelope.specs.declared.parts.Envelope.{Envelope}
use Rattle.envelope.specs.Lock.{ByteLaws, mt_lock}
use Rattle.envelope.specs.Opening.{Opens}
use Rattle.envelope.specs.Packet.{Lock, Sealed}
use Rattle.server_output.specs.Outs.{sealed_envelope}
use Rattle.ring_rules.specs.Binding.{keys_of}
use Rattle.ring_rules.specs.Opening.{opened}
use Rattle.ring_rules.specs.Sealing.{packet_under}
use Rattle.server_dispatch.specs.Rings.{AreOf}
use Rattle.server_rules.specs.Event.{Sent}
use Rattle.server_node.specs.Trace.{IsOutside, IsRead}
use Rattle.cmd_serve.specs.Packets.{answer_of, outside_of, refusal_of, sealing_by}
use Rattle.cmd_serve.proofs.Opening.{IsReadable, refused-or-opens}

-- the worked-out opening is the opening
abbrev pub OpensSo : Lock → List RingKey → Type 0
OpensSo lock ring = (now : ℕ) (packet : List ℕ) (envelope : Envelope) → (opened lock ring now Up packet ≡ Some envelope ↔ Opens lock ring now Up packet envelope)

read-so : (lock : Lock) → IsReadable lock → ByteLaws → (ring : List RingKey) → OpensSo lock ring → (now : ℕ) (packet : List ℕ) → IsBytes packet
    → (found : Option Envelope) → opened lock ring now Up packet ≡ found → IsRead lock ring now packet (answer_of found (refusal_of lock ring now Up packet))
read-so lock is laws ring so now packet bytes (Some envelope) same = (so now packet envelope).0 same
read-so lock is laws ring so now packet bytes None same =
    refused-or-opens lock is laws ring now Up packet bytes (λ envelope opens. let both : None ≡ Some envelope = sym same ∙ (so now packet envelope).1 opens in cc)

seals-so : (lock : Lock) (ring : List RingKey) (sent : Sent) (packet : List ℕ) → Sealed lock ring Down (sealed_envelope sent.envelope) sent.padding packet → sealing_by lock ring sent ≡ packet
seals-so lock ring sent packet sealed = ap (λ (entry : Option RingKey). packet_under lock entry Down (sealed_envelope sent.envelope) sent.padding) sealed.found ∙ sym sealed.spelled

pub outside-is : IsReadable mt_lock → ByteLaws → (ring : List RingKey) → OpensSo mt_lock ring → AreOf ring (keys_of ring) → IsOutside mt_lock ring (outside_of ring)
unfolding outside_of
outside-is is laws ring so keys = record {
  keys = keys;
  reads = λ now packet bytes. read-so mt_lock is laws ring so now packet bytes (opened mt_lock ring now Up packet) refl;
  seals = seals-so mt_lock ring;
}
