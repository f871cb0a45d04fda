use Rattle.std.proofs.Common.{refl}
use Rattle.server_node.proofs.Answering.{next_failed}
use Rattle.server_node.proofs.taking.take_next.Goals as goal

pub returns-in-Ok-clause-next : goal.returns-in-Ok-clause-next
returns-in-Ok-clause-next g c = record {
  packet = c.in-Packet.packet.now;
  next = λ from packets bytes hears. (
    ((c.in-Packet.ensures.answers from packets bytes hears).packet c.in-Packet.packet.now).0 refl,
    rw c.in-Packet.is at (c.next.follows.holds-at-none.0 from packets bytes hears),
  );
  tells = record {
    bytes = c.are_bytes.ensures;
    heard = λ server stands. c.in-Ok.ensures.heard server stands;
    refused = λ server refusal stands is. c.in-Ok.ensures.refused server refusal stands is;
    given = λ keys server envelope of stands opens. c.in-Ok.ensures.given keys server envelope of stands opens;
  };
}

pub returns-in-Err-clause-next : goal.returns-in-Err-clause-next
returns-in-Err-clause-next g c =
    next_failed g.K.D.Draw.step g.K.S.Seal.lock (g.K.Desk.keys c.args.desk.now) (g.K.Desk.StandsFor c.args.desk.now) (g.K.Desk.StandsFor c.on_packet.new.self) (g.K.Desk.Behind c.args.desk.now) (g.K.Desk.Behind c.on_packet.new.self) (g.K.Desk.drawn c.args.desk.now) (g.K.Desk.drawn c.on_packet.new.self)
    c.args.now c.args.wire.now _ c.in-Packet.packet.now c.in-Err.fault _ c.end_of.ensures
    (λ from packets bytes hears. ((c.in-Packet.ensures.answers from packets bytes hears).packet c.in-Packet.packet.now).0 refl)
    (λ server stands memory. c.in-Err.ensures.unchanged_on_memory server stands memory) (λ server len stands full. c.in-Err.ensures.unchanged_on_full server len stands full)
    (λ server stands short. c.in-Err.ensures.behind server stands short)
