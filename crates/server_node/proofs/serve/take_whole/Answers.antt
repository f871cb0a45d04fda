use Rattle.std.proofs.Common.{refl}
use Rattle.server_node.proofs.AllPackets.{did_zero}
use Rattle.server_node.proofs.serve.take_whole.Goals as goal

pub returns-in-Raw-clause-took : goal.returns-in-Raw-clause-took
returns-in-Raw-clause-took g c = rw c.in-Raw.is (record {
  goes_on = refl;
  did = λ service. did_zero g.K.D.Draw.step g.V.Service.step g.K.S.Seal.lock (g.K.Desk.keys c.args.desk.now) _;
  line = refl;
  left_is = refl;
})

pub returns-in-Framed-clause-took : goal.returns-in-Framed-clause-took
returns-in-Framed-clause-took g c = rw c.in-Framed.is (record {
  wire_then = c.take_packets.new.wire;
  line = refl;
  form = c.take_packets.ensures.same_form;
  took = c.take_packets.ensures.took;
})
