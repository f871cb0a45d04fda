use Rattle.std.proofs.Common.{◌∙◌, ◌<◌, ◌≤◌, ◌&&◌, nat_le, sym, arith}
use Rattle.waits.specs.Jobs.{is_ready, one_if, ready_count, ready_job}
use Rattle.waits.specs.Stamps.{queue_of, tally, count_before}
use Rattle.waits.proofs.Order.{total_queue}
use Rattle.waits.proofs.Taken.{ready_none, ready_found, some_shown, none_shown, some_from}
use Rattle.waits.proofs.View.{viewed}
use Rattle.waits.proofs.jobs.Jobs.ready_at.Goals as goal

pub returns-then-k-ready-clause-job : goal.returns-then-k-ready-clause-job
returns-then-k-ready-clause-job c = sym (ready_none c.args.k c.args.self.now.jobs (omega (arith, c.ready.ensures.count, c.if-k-ready.true)))

pub least_stamp-least-requires : goal.least_stamp-least-requires
least_stamp-least-requires c =
    let xs = c.self.inside.owners.jobs in
    record {
      enough = omega (arith, c.ready.ensures.count, c.if-k-ready.false, total_queue (λ one. one_if (is_ready one)) xs, viewed ready_count (queue_of xs) c.self.inside.room c.args.self.now c.self.view_is);
      stamped = c.self.invariant.stamped;
    }

pub returns-clause-job : goal.returns-clause-job
returns-clause-job c =
    let xs = c.self.inside.owners.jobs in
    let more : c.args.k < tally (λ x. is_ready x.one) xs = omega (arith, c.ready.ensures.count, c.if-k-ready.false, total_queue (λ one. one_if (is_ready one)) xs, viewed ready_count (queue_of xs) c.self.inside.room c.args.self.now c.self.view_is) in
    ready_found c.self.inside.stamp c.args.k c.least_stamp-least.result xs c.first.result c.self.invariant.stamped c.least_stamp-least.ensures more c.first.ensures.found c.first.ensures.none
    ∙ sym (viewed (ready_job c.args.k) (queue_of xs) c.self.inside.room c.args.self.now c.self.view_is)

pub returns-clause-there : goal.returns-clause-there
returns-clause-there c = some_shown c.first.result (omega (arith, c.ready.ensures.count, c.if-k-ready.false))

pub returns-clause-none : goal.returns-clause-none
returns-clause-none c =
    let xs = c.self.inside.owners.jobs in
    let more : c.args.k < tally (λ x. is_ready x.one) xs = omega (arith, c.ready.ensures.count, c.if-k-ready.false, total_queue (λ one. one_if (is_ready one)) xs, viewed ready_count (queue_of xs) c.self.inside.room c.args.self.now c.self.view_is) in
    none_shown (ready_count c.args.self.now.jobs ≤ c.args.k) c.first.result (count_before (λ y. nat_le c.least_stamp-least.result y.stamp && is_ready y.one) c.self.inside.stamp xs) c.first.ensures.none
    (some_from c.self.inside.stamp c.least_stamp-least.result c.args.k xs c.self.invariant.stamped c.least_stamp-least.ensures more)
