use Rattle.std.proofs.Common.{◌∙◌, ◌++◌, List, ap, sym, subst}
use Rattle.std.proofs.lemmas.List.{append-nil}
use Rattle.waits.specs.declared.stamped.Stamped.{Stamped}
use Rattle.waits.specs.Owned.{IsOwned}
use Rattle.waits.proofs.View.{owning}
use Rattle.waits.proofs.owner.Owner.copy.Goals as goal

pub invariant_of-result : goal.invariant_of-result
invariant_of-result c =
    let jobs = c.loop-job.invariant ∙ (ap (λ (xs : List Stamped). c.loop-job.jobs ++ xs) c.in-None.ensures.steps.0 ∙ append-nil c.loop-job.jobs) in
    subst (λ (xs : List Stamped). IsOwned (record c.self.inside { jobs = xs })) jobs c.self.invariant

pub returns : goal.returns
returns c =
    let jobs = c.loop-job.invariant ∙ (ap (λ (xs : List Stamped). c.loop-job.jobs ++ xs) c.in-None.ensures.steps.0 ∙ append-nil c.loop-job.jobs) in
    ap (λ (xs : List Stamped). owning c.self.inside.key c.self.inside.session xs) (sym jobs) ∙ c.self.view_is
