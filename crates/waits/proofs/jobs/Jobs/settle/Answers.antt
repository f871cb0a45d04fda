use Rattle.std.proofs.Common.{◌∙◌, ap, subst, sym, arith}
use Rattle.waits.specs.Jobs.{after_answer, settled}
use Rattle.waits.specs.Stamps.{queue_of, AreStamped}
use Rattle.waits.proofs.Order.{queue_changed}
use Rattle.waits.proofs.Taken.{stamped_told}
use Rattle.waits.proofs.View.{changed}
use Rattle.waits.proofs.jobs.Jobs.settle.Goals as goal

pub invariant_of-self : goal.invariant_of-self
invariant_of-self c =
    record {
      stamped = subst (AreStamped c.self.inside.stamp) (sym c.settle.ensures.jobs) (stamped_told c.self.inside.stamp c.args.key c.args.session c.args.number c.args.ok c.self.inside.owners.jobs c.self.invariant.stamped);
      stamps = c.self.invariant.stamps;
      room = omega (arith, c.self.invariant.room, c.settle.ensures.room);
    }

pub returns : goal.returns
returns c =
    let xs = c.self.inside.owners.jobs in
    changed (settled c.args.key c.args.session c.args.number c.args.ok) (queue_of xs) (queue_of c.settle.new.self.jobs) c.self.inside.room c.args.self.now c.self.view_is
    (ap queue_of c.settle.ensures.jobs ∙ queue_changed (after_answer c.args.key c.args.session c.args.number c.args.ok) xs)
