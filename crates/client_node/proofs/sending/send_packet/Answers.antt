use Rattle.client_node.proofs.Spelling.{spells_by}
use Rattle.client_node.proofs.sending.send_packet.Goals as goal

pub returns-in-Ok-clause-tells : goal.returns-in-Ok-clause-tells
returns-in-Ok-clause-tells g c =
    spells_by c.send.result c.args.wire.now c.put.new.self c.args.packet.now
    (c.a_packet_more_is_spelt.ensures c.args.wire.now c.put.new.self c.args.packet.now c.in-Ok.ensures.same_in.0 c.in-Ok.ensures.tells)
