use Rattle.std.proofs.Common.{sym, subst}
use Rattle.sha2.specs.Hashers.{Holds256}
use Rattle.sim_text.proofs.BagLemmas.{joined_more}
use Rattle.sim_text.proofs.wire.digest_of.Goals as goal

pub loop-place-preserved : goal.loop-place-preserved
loop-place-preserved g c =
    let more = joined_more (g.W.Wire.packets c.args.wire.now) c.loop-place.place c.packet_at.result.now c.packet_at.ensures in
    subst (λ message. Holds256 c.update.new.self message) (sym more) (c.update.ensures _ c.loop-place.invariant)
