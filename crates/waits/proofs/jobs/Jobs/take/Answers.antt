use Rattle.std.proofs.Common.{◌∙◌, ◌<◌, Some, ap, sym, arith}
use Rattle.waits.specs.declared.job.Job.{Job}
use Rattle.waits.specs.Jobs.{is_ready, one_if, ready_count, ready_job, without_ready}
use Rattle.waits.specs.Stamps.{queue_of, tally}
use Rattle.waits.proofs.Order.{total_queue}
use Rattle.waits.proofs.Taken.{stamped_less, ready_gone, some_from}
use Rattle.waits.proofs.View.{changed, viewed}
use Rattle.waits.proofs.jobs.Jobs.take.Goals as goal

pub least_stamp-from-requires : goal.least_stamp-from-requires
least_stamp-from-requires c =
    let xs = c.self.inside.owners.jobs in
    record {
      enough = omega (arith, c.requires, total_queue (λ one. one_if (is_ready one)) xs, viewed ready_count (queue_of xs) c.self.inside.room c.args.self.now c.self.view_is);
      stamped = c.self.invariant.stamped;
    }

-- there is one
pub unreachable-requires : goal.unreachable-requires
unreachable-requires c =
    let xs = c.self.inside.owners.jobs in
    let more : c.args.k < tally (λ x. is_ready x.one) xs = omega (arith, c.requires, total_queue (λ one. one_if (is_ready one)) xs, viewed ready_count (queue_of xs) c.self.inside.room c.args.self.now c.self.view_is) in
    some_from c.self.inside.stamp c.least_stamp-from.result c.args.k xs c.self.invariant.stamped c.least_stamp-from.ensures more c.in_default.ensures.none

pub invariant_of-self : goal.invariant_of-self
invariant_of-self c =
    let found = c.in-Some.ensures.found in
    record {
      stamped = stamped_less c.self.inside.stamp found.0 c.take_first.new.self.jobs c.self.inside.owners.jobs found.2.among c.self.invariant.stamped;
      stamps = c.self.invariant.stamps;
      room = omega (arith, c.self.invariant.room, c.in-Some.ensures.room);
    }

pub returns-clause-job : goal.returns-clause-job
returns-clause-job c =
    let xs = c.self.inside.owners.jobs in
    let found = c.in-Some.ensures.found in
    let gone = ready_gone c.self.inside.stamp c.args.k c.least_stamp-from.result found.0 c.take_first.new.self.jobs xs found.2 c.least_stamp-from.ensures c.self.invariant.stamped in
    viewed (ready_job c.args.k) (queue_of xs) c.self.inside.room c.args.self.now c.self.view_is ∙ (gone.job ∙ ap (λ (job : Job). Some job) (sym {A = Job} found.1))

pub returns-clause-others : goal.returns-clause-others
returns-clause-others c =
    let xs = c.self.inside.owners.jobs in
    let found = c.in-Some.ensures.found in
    let gone = ready_gone c.self.inside.stamp c.args.k c.least_stamp-from.result found.0 c.take_first.new.self.jobs xs found.2 c.least_stamp-from.ensures c.self.invariant.stamped in
    changed (without_ready c.args.k) (queue_of xs) (queue_of c.take_first.new.self.jobs) c.self.inside.room c.args.self.now c.self.view_is (sym gone.left)
