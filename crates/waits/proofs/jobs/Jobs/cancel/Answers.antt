use Rattle.std.proofs.Common.{◌∙◌, sym, arith}
use Rattle.waits.specs.Jobs.{is_call, first_job, without_first}
use Rattle.waits.specs.Stamps.{queue_of}
use Rattle.waits.proofs.Taken.{first_or_none}
use Rattle.waits.proofs.View.{changed, viewed}
use Rattle.waits.proofs.jobs.Jobs.cancel.Goals as goal

pub invariant_of-self : goal.invariant_of-self
invariant_of-self c =
    let e = c.take_call.ensures in
    let taken = first_or_none c.self.inside.stamp (is_call c.args.key c.args.session c.args.number) c.self.inside.owners c.take_call.new.self c.take_call.result e.found e.none e.unchanged c.self.invariant.stamped in
    record { stamped = taken.stamped; stamps = c.self.invariant.stamps; room = omega (arith, c.self.invariant.room, e.room) }

pub returns-clause-job : goal.returns-clause-job
returns-clause-job c =
    let e = c.take_call.ensures in
    let taken = first_or_none c.self.inside.stamp (is_call c.args.key c.args.session c.args.number) c.self.inside.owners c.take_call.new.self c.take_call.result e.found e.none e.unchanged c.self.invariant.stamped in
    taken.job ∙ sym (viewed (first_job (is_call c.args.key c.args.session c.args.number)) (queue_of c.self.inside.owners.jobs) c.self.inside.room c.args.self.now c.self.view_is)

pub returns-clause-others : goal.returns-clause-others
returns-clause-others c =
    let e = c.take_call.ensures in
    let taken = first_or_none c.self.inside.stamp (is_call c.args.key c.args.session c.args.number) c.self.inside.owners c.take_call.new.self c.take_call.result e.found e.none e.unchanged c.self.invariant.stamped in
    changed (without_first (is_call c.args.key c.args.session c.args.number)) (queue_of c.self.inside.owners.jobs) (queue_of c.take_call.new.self.jobs) c.self.inside.room c.args.self.now c.self.view_is taken.others
