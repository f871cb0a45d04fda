use Rattle.std.proofs.Common.{arith}
use Rattle.sim_text.proofs.BagLemmas.{bytes_more}
use Rattle.sim_text.proofs.wire.wire_bytes.Goals as goal

pub loop-place-preserved : goal.loop-place-preserved
loop-place-preserved g c =
    (bytes_more (g.W.Wire.packets c.args.wire.now) c.loop-place.place c.loop-place.bytes c.packet_at.result.now c.packet_at.ensures c.loop-place.invariant.0, omega arith)
