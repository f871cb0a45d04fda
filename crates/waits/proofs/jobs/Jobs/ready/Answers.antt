use Rattle.std.proofs.Common.{arith}
use Rattle.waits.specs.Jobs.{is_ready, ready_count, one_if}
use Rattle.waits.specs.Stamps.{queue_of}
use Rattle.waits.proofs.Order.{total_queue}
use Rattle.waits.proofs.Asked.{ready_or_not}
use Rattle.waits.proofs.View.{viewed}
use Rattle.waits.proofs.jobs.Jobs.ready.Goals as goal

pub overflow_sub-result : goal.overflow_sub-result
overflow_sub-result c =
    let all = ready_or_not c.self.inside.owners.jobs in
    omega (arith, c.totals-totals.ensures.count, c.totals-totals.ensures.blocked)

pub returns : goal.returns
returns c =
    let xs = c.self.inside.owners.jobs in
    let all = ready_or_not xs in
    let seen = viewed ready_count (queue_of xs) c.self.inside.room c.args.self.now c.self.view_is in
    let counted = total_queue (λ one. one_if (is_ready one)) xs in
    record { count = omega (arith, seen, counted, c.totals-totals.ensures.count, c.totals-totals.ensures.blocked) }
