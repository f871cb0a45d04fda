use Rattle.std.proofs.Common.{◌∙◌, sym, refl, arith}
use Rattle.waits.specs.Jobs.{is_ready}
use Rattle.waits.proofs.Taken.{none_before_zero, ready_from_zero, halved, all_between}
use Rattle.waits.proofs.stamp_search.least_stamp.Goals as goal
use Rattle.waits.proofs.stamp_search.least_stamp.Goals.{then-ready-count, else-ready-count}

pub returns-then-count-eq0 : goal.returns-then-count-eq0
returns-then-count-eq0 c = omega (arith, none_before_zero (λ x. is_ready x.one) c.args.owners.now.jobs, c.if-count-eq0.true)

pub loop-low-init : goal.loop-low-init
loop-low-init c =
    let xs = c.args.owners.now.jobs in
    let first = c.first_stamp-first.result in
    all_between xs c.args.count (record { stamp = first; ready = 0 }) (record { stamp = c.args.limit; ready = c.ready_before.result }) c.requires.stamped c.requires.enough refl (sym (ready_from_zero first xs) ∙ c.first_stamp-first.ensures) c.ready_before.ensures

pub loop-low-preserved : goal.loop-low-preserved
loop-low-preserved c =
    let so_far = c.loop-low.invariant in
    elim c.if-ready-count.branch [
      | then-ready-count w ↦ rw (w.low-is, w.high-is) (record {
        below_low = c.ready_before-ready.ensures;
        below_high = so_far.below_high;
        few = w.if-ready-count.true;
        more = so_far.more;
        order = c.between-stamp.ensures.below;
      })
      | else-ready-count w ↦ rw (w.low-is, w.high-is) (record {
        below_low = so_far.below_low;
        below_high = c.ready_before-ready.ensures;
        few = so_far.few;
        more = w.if-ready-count.false;
        order = c.between-stamp.ensures.above;
      })
    ]

-- the bounds stand side by side
pub returns-else-high-low-gt1 : goal.returns-else-high-low-gt1
returns-else-high-low-gt1 c =
    let between = c.loop-low.invariant in
    halved c.args.limit (λ x. is_ready x.one) c.args.owners.now.jobs c.loop-low.low.stamp c.loop-low.high.stamp c.args.count c.requires.stamped (omega (arith, between.below_low, between.few)) (omega (arith, between.below_high, between.more)) (omega (arith, c.if-high-low-gt1.false))
