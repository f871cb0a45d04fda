use Rattle.std.proofs.Common.{◌∙◌, not, ap, subst, sym, arith}
use Rattle.waits.specs.Jobs.{is_of, without_session}
use Rattle.waits.specs.Stamps.{queue_of, AreStamped}
use Rattle.waits.proofs.Order.{queue_filtered}
use Rattle.waits.proofs.Taken.{stamped_filtered}
use Rattle.waits.proofs.View.{changed}
use Rattle.waits.proofs.jobs.Jobs.forget.Goals as goal

pub invariant_of-self : goal.invariant_of-self
invariant_of-self c =
    record {
      stamped = subst (AreStamped c.self.inside.stamp) (sym c.forget.ensures.jobs) (stamped_filtered c.self.inside.stamp (λ x. not (is_of c.args.key c.args.session x.one)) c.self.inside.owners.jobs c.self.invariant.stamped);
      stamps = c.self.invariant.stamps;
      room = omega (arith, c.self.invariant.room, c.forget.ensures.room);
    }

pub returns : goal.returns
returns c =
    let xs = c.self.inside.owners.jobs in
    changed (without_session c.args.key c.args.session) (queue_of xs) (queue_of c.forget.new.self.jobs) c.self.inside.room c.args.self.now c.self.view_is
    (ap queue_of c.forget.ensures.jobs ∙ queue_filtered (λ one. not (is_of c.args.key c.args.session one)) xs)
