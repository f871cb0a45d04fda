use Rattle.std.proofs.Common.{arith}
use Rattle.waits.specs.Jobs.{is_of, is_overdue, overdue_count_of}
use Rattle.waits.specs.Stamps.{own, queue_of}
use Rattle.waits.proofs.Asked.{all_before, own_tally}
use Rattle.waits.proofs.Taken.{stamped_filtered}
use Rattle.waits.proofs.View.{viewed}
use Rattle.waits.proofs.jobs.Jobs.overdue_of.Goals as goal

pub returns : goal.returns
returns c =
    let xs = c.self.inside.owners.jobs in
    let few = stamped_filtered c.self.inside.stamp (λ x. is_of c.args.key c.args.session x.one) xs c.self.invariant.stamped in
    record { count = omega (arith, c.count_of.ensures, all_before (λ x. is_overdue c.args.now x.one) c.self.inside.stamp (own c.args.key c.args.session xs) few.below, own_tally (is_overdue c.args.now) c.args.key c.args.session xs, viewed (overdue_count_of c.args.key c.args.session c.args.now) (queue_of xs) c.self.inside.room c.args.self.now c.self.view_is) }
