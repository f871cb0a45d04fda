use Rattle.std.proofs.Common.{◌∙◌}
use Rattle.containers.proofs.Places.{goes_on}
use Rattle.containers.proofs.parts.check.Goals as goal

pub loop-place-preserved : goal.loop-place-preserved
loop-place-preserved c =
    c.loop-place.invariant ∙ rw (c.in-Ok.ensures.1) (goes_on c.args.number c.loop-place.place c.args.count c.loop-place.left.now c.loop-place-test.true c.in-Ok.ensures.0)
