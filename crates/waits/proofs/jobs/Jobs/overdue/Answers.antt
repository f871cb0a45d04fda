use Rattle.std.proofs.Common.{arith}
use Rattle.waits.specs.Jobs.{is_overdue, overdue_count, one_if}
use Rattle.waits.specs.Stamps.{queue_of}
use Rattle.waits.proofs.Order.{total_queue}
use Rattle.waits.proofs.Asked.{all_before}
use Rattle.waits.proofs.View.{viewed}
use Rattle.waits.proofs.jobs.Jobs.overdue.Goals as goal

pub returns : goal.returns
returns c =
    let xs = c.self.inside.owners.jobs in
    record { count = omega (arith, c.count.ensures, all_before (λ x. is_overdue c.args.now x.one) c.self.inside.stamp xs c.self.invariant.stamped.below, total_queue (λ one. one_if (is_overdue c.args.now one)) xs, viewed (overdue_count c.args.now) (queue_of xs) c.self.inside.room c.args.self.now c.self.view_is) }
