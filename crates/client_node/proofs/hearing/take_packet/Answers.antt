use Rattle.std.proofs.Common.{max}
use Rattle.client_node.proofs.PacketLemmas.{packet_goes, packet_memory}
use Rattle.client_node.proofs.hearing.take_packet.Goals as goal

pub returns-in-Err-clause-took : goal.returns-in-Err-clause-took
returns-in-Err-clause-took g c reading course reads stands =
    packet_memory g.D.Draw.step reading c.args.now course c.args.packet.now c.args.client c.hear-client.result.0 c.args.draw.now c.in-Err.field-0 stands
    (rw c.in-Err.is at (c.hear-client.ensures.hears course.client (reading (max course.client.now c.args.now) c.args.packet.now) stands.client (reads (max course.client.now c.args.now) c.args.packet.now)))

pub returns-else-is_decided-clause-took : goal.returns-else-is_decided-clause-took
returns-else-is_decided-clause-took g c reading course reads stands =
    packet_goes g.D.Draw.step reading c.args.now course c.args.packet.now c.args.client c.hear-client.result.0 c.renew.result c.args.draw.now c.renew.new.draw c.is_decided.result stands
    (rw c.in-Ok.is at (c.hear-client.ensures.hears course.client (reading (max course.client.now c.args.now) c.args.packet.now) stands.client (reads (max course.client.now c.args.now) c.args.packet.now)))
    c.is_decided.ensures.stands c.if-is_decided.false c.renew.ensures.renews

pub returns-else-is_decided-clause-keys : goal.returns-else-is_decided-clause-keys
returns-else-is_decided-clause-keys g c ring has = c.renew.ensures.keys ring (c.hear-client.ensures.keys ring has)
