use Rattle.std.proofs.Common.{◌∙◌, sym, arith}
use Rattle.waits.specs.Jobs.{is_overdue, first_job, without_first}
use Rattle.waits.specs.Stamps.{queue_of}
use Rattle.waits.proofs.Taken.{first_or_none}
use Rattle.waits.proofs.View.{changed, viewed}
use Rattle.waits.proofs.jobs.Jobs.expired.Goals as goal

pub invariant_of-self : goal.invariant_of-self
invariant_of-self c =
    let e = c.take_first.ensures in
    let taken = first_or_none c.self.inside.stamp (is_overdue c.args.now) c.self.inside.owners c.take_first.new.self c.take_first.result e.found e.none e.unchanged c.self.invariant.stamped in
    record { stamped = taken.stamped; stamps = c.self.invariant.stamps; room = omega (arith, c.self.invariant.room, e.room) }

pub returns-clause-job : goal.returns-clause-job
returns-clause-job c =
    let e = c.take_first.ensures in
    let taken = first_or_none c.self.inside.stamp (is_overdue c.args.now) c.self.inside.owners c.take_first.new.self c.take_first.result e.found e.none e.unchanged c.self.invariant.stamped in
    taken.job ∙ sym (viewed (first_job (is_overdue c.args.now)) (queue_of c.self.inside.owners.jobs) c.self.inside.room c.args.self.now c.self.view_is)

pub returns-clause-others : goal.returns-clause-others
returns-clause-others c =
    let e = c.take_first.ensures in
    let taken = first_or_none c.self.inside.stamp (is_overdue c.args.now) c.self.inside.owners c.take_first.new.self c.take_first.result e.found e.none e.unchanged c.self.invariant.stamped in
    changed (without_first (is_overdue c.args.now)) (queue_of c.self.inside.owners.jobs) (queue_of c.take_first.new.self.jobs) c.self.inside.room c.args.self.now c.self.view_is taken.others
