use Rattle.server_node.proofs.Packets.{attach_failed, hear_ended, took_first, took_heard}
use Rattle.server_node.proofs.taking.take_packet.Goals as goal

pub returns-in-Ok-Packet-clause-took : goal.returns-in-Ok-Packet-clause-took
returns-in-Ok-Packet-clause-took g c =
    took_heard g.K.D.Draw.step g.V.Service.step g.K.S.Seal.lock (g.K.Desk.keys c.args.desk.now) _ _ c.args.now _ _ (rw (c.in-Ok-Packet.field-0-is) at c.in-Ok-Packet.ensures.came)

pub returns-in-Ok-clause-took : goal.returns-in-Ok-clause-took
returns-in-Ok-clause-took g c =
    took_first g.K.D.Draw.step g.V.Service.step g.K.S.Seal.lock (g.K.Desk.keys c.args.desk.now) (g.K.Desk.keys c.hear.new.desk) _ _ _ c.args.now _ _ _ c.in-Ok-First.name
    c.hear.ensures.same_keys c.attach.ensures.same_in (rw (c.in-Ok-First.field-0-is) at c.in-Ok-First.ensures.came) c.in-Ok.ensures.did

pub returns-in-Err-attach-clause-took : goal.returns-in-Err-attach-clause-took
returns-in-Err-attach-clause-took g c =
    attach_failed g.K.D.Draw.step g.V.Service.step g.K.S.Seal.lock (g.K.Desk.keys c.args.desk.now) (g.K.Desk.keys c.hear.new.desk) _ _ _ c.args.now c.args.wire.now c.hear.new.wire c.attach.new.wire c.in-Ok-First.name g.K.Desk.MayAnswer c.in-Err-attach.end
    c.hear.ensures.same_keys c.in-Err-attach.ensures.ends (rw (c.in-Ok-First.field-0-is) at c.in-Ok-First.ensures.came) c.in-Err-attach.ensures.did

pub returns-in-Err-clause-took : goal.returns-in-Err-clause-took
returns-in-Err-clause-took g c =
    hear_ended g.K.D.Draw.step g.V.Service.step g.K.S.Seal.lock (g.K.Desk.keys c.args.desk.now) _ _ c.args.now c.args.wire.now c.hear.new.wire c.in-Err.end c.in-Err.ensures.came
