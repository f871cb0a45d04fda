use Rattle.std.proofs.Common.{◌<◌, length, arith}
use Rattle.waits.specs.Wanted.{is_wanted}
use Rattle.waits.proofs.Places.{sought_here, sought_on}
use Rattle.waits.proofs.Lent.{lent_at}
use Rattle.waits.proofs.owners.first_place.Goals as goal
use Rattle.waits.proofs.owners.first_place.Goals.{in-Some, in_default}

pub loop-owner-preserved : goal.loop-owner-preserved
loop-owner-preserved c =
    let ps = c.args.list.now.items in
    let test = is_wanted c.args.wanted.now in
    let i = c.loop-owner.owner in
    let part = c.index.result.now in
    let within : i < length ps = omega (arith, c.loop-owner-test.true, c.len-owner-end.ensures) in
    let one = lent_at ps i part within c.index.ensures in
    elim c.match-first.branch [
      | in-Some w ↦ rw (w.least-is, w.found-is) (sought_here test ps c.args.limit i c.loop-owner.least c.loop-owner.found part w.in-Some.first one within c.loop-owner.invariant w.in-Some.ensures.found)
      | in_default w ↦ rw (w.least-is, w.found-is) (sought_on test ps c.args.limit i c.loop-owner.least c.loop-owner.found part one within c.loop-owner.invariant w.in_default.ensures.none)
    ]
