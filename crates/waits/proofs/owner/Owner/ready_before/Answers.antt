use Rattle.std.proofs.Common.{◌≡◌, ◌∙◌, ◌-◌, subst, arith}
use Rattle.waits.specs.Jobs.{is_ready}
use Rattle.waits.specs.Stamps.{count_before}
use Rattle.waits.specs.Parts.{Part}
use Rattle.waits.proofs.Asked.{all_before, ready_or_not}
use Rattle.waits.proofs.Taken.{ready_from_zero}
use Rattle.waits.proofs.owner.Owner.ready_before.Goals as goal

pub overflow_sub-result : goal.overflow_sub-result
overflow_sub-result c = omega (arith, c.self.invariant.totals.count, c.self.invariant.totals.blocked, ready_or_not c.self.inside.jobs)

pub returns-then-are_before : goal.returns-then-are_before
returns-then-are_before c =
    let jobs = c.self.inside.jobs in
    let all = all_before (λ x. is_ready x.one) c.args.limit jobs (c.are_before.ensures c.if-are_before.true) in
    subst (λ (part : Part). c.self.inside.totals.count - c.self.inside.totals.blocked ≡ count_before (λ x. is_ready x.one) c.args.limit part.jobs) c.self.view_is
    (omega (arith, c.self.invariant.totals.count, c.self.invariant.totals.blocked, ready_or_not jobs, all))

pub returns : goal.returns
returns c = c.count.ensures ∙ ready_from_zero c.args.limit c.args.self.now.jobs
