use Rattle.std.proofs.Common.{◌≤◌, ◌+◌, length, ap, arith}
use Rattle.containers.specs.Container.{container_head}
use Rattle.envelope.specs.Packet.{to_seal}
use Rattle.client_core.specs.Draft.{Draft}
use Rattle.client_core.proofs.OwedLemmas.{sealed_more}
use Rattle.client_core.proofs.filling.Draft.finish.Goals as goal

pub returns-clause-can_be_sealed : goal.returns-clause-can_be_sealed
returns-clause-can_be_sealed c =
    let rows = ap length c.as_slice.ensures.value in
    let own = ap (λ (draft : Draft). length draft.rows) c.self.view_is in
    let short : length (to_seal c.put_packet.new.packet.bytes) ≤ container_head + length c.args.self.rows = omega (arith, c.put_packet.ensures.short, rows, own) in
    record {
      front = c.put_packet.ensures.front;
      words = c.put_packet.ensures.words;
      short = omega (arith, short, own, c.self.invariant.0);
      room = omega (arith, c.requires.room, sealed_more _ _ short, c.put_packet.ensures.room);
    }
