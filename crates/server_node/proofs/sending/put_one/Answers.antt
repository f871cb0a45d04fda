use Rattle.server_node.proofs.Spelling.{framed_one}
use Rattle.server_node.proofs.sending.put_one.Goals as goal

pub returns-clause-framed : goal.returns-clause-framed
returns-clause-framed c =
    framed_one c.args.wire.now c.put.new.self c.args.packet.now c.args.text.now c.put.new.out
    (c.a_packet_more_is_spelt.ensures c.args.wire.now c.put.new.self c.args.packet.now c.put.ensures.same_in.0 c.in_ok-put.ensures.tells) c.in_ok-put.ensures.appended
