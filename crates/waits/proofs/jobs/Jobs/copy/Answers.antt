use Rattle.std.proofs.Common.{◌∙◌, ap, subst, sym}
use Rattle.waits.specs.Stamps.{AreStamped, queue_of}
use Rattle.waits.proofs.View.{holding}
use Rattle.waits.specs.Jobs.{Queue}
use Rattle.waits.proofs.jobs.Jobs.copy.Goals as goal

pub invariant_of-result : goal.invariant_of-result
invariant_of-result c =
    record {
      stamped = subst (AreStamped c.self.inside.stamp) (sym c.in_ok-copy.ensures.jobs) c.self.invariant.stamped;
      stamps = c.self.invariant.stamps;
      room = c.in_ok-copy.ensures.room;
    }

pub returns : goal.returns
returns c = ap (λ (queue : Queue). holding queue c.self.inside.room) (ap queue_of c.in_ok-copy.ensures.jobs) ∙ c.self.view_is
