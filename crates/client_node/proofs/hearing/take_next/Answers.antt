use Rattle.std.proofs.Common.{inl, inr, refl}
use Rattle.client_node.proofs.HearingSteps.{came_failed}
use Rattle.client_node.proofs.hearing.take_next.Goals as goal

pub returns-then-packet-eq-ERROR_BYTES-clause-next :
    goal.returns-then-packet-eq-ERROR_BYTES-clause-next
returns-then-packet-eq-ERROR_BYTES-clause-next g c = (
  (refl, refl),
  λ from packets bytes hears.
      inl (record { error = c.in-Packet.packet.now; size = c.if-packet-eq-ERROR_BYTES.true; next = ((c.in-Packet.ensures.answers from packets bytes hears).packet c.in-Packet.packet.now).0 refl }),
)

pub returns-in-Ok-clause-next : goal.returns-in-Ok-clause-next
returns-in-Ok-clause-next g c = (
  c.in-Packet.packet.now,
  record {
    size = c.if-packet-eq-ERROR_BYTES.false;
    took = λ reading course reads stands. rw c.in-Ok.is at (c.take_packet-client.ensures.took reading course reads stands);
    came = λ from packets bytes hears. record {
      next = ((c.in-Packet.ensures.answers from packets bytes hears).packet c.in-Packet.packet.now).0 refl;
      hears = rw c.in-Packet.is at (c.next.follows.holds-at-none.0 from packets bytes hears);
    };
  },
)

pub returns-in-Err-clause-next : goal.returns-in-Err-clause-next
returns-in-Err-clause-next g c =
    came_failed g.D.Draw.step g.S.Seal.lock (g.S.Seal.keys c.args.seal.now) c.args.now c.args.client c.args.draw.now c.args.wire.now c.in-Packet.packet.now c.in-Err.end
    c.take_packet-client.result.0 c.take_packet-client.new.draw c.next.follows.lender-at-none
    (rw c.in-Err.is at c.take_packet-client.ensures.ends)
    (record {
      size = c.if-packet-eq-ERROR_BYTES.false;
      took = λ reading course reads stands. rw c.in-Err.is at (c.take_packet-client.ensures.took reading course reads stands);
      came = λ from packets bytes hears. record {
        next = ((c.in-Packet.ensures.answers from packets bytes hears).packet c.in-Packet.packet.now).0 refl;
        hears = rw c.in-Packet.is at (c.next.follows.holds-at-none.0 from packets bytes hears);
      };
    })

pub returns-in-Fault-clause-next : goal.returns-in-Fault-clause-next
returns-in-Fault-clause-next g c = (
  (refl, refl),
  λ from packets bytes hears.
      inr (record { fault = c.in-Fault.field-0; shown = ((c.in-Fault.ensures.answers from packets bytes hears).fault c.in-Fault.field-0).0 refl }),
)
