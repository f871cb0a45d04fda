use Rattle.std.proofs.Common.{◌∙◌, ℕ, ◌+◌, List, ap, sym, subst, arith}
use Rattle.waits.specs.declared.stamped.Stamped.{Stamped}
use Rattle.waits.specs.Jobs.{one_if}
use Rattle.waits.specs.Wanted.{is_wanted}
use Rattle.waits.proofs.Sums.{at_most_one}
use Rattle.waits.proofs.Searching.{IsSummed, one_summed, summed_few, summed_to}
use Rattle.waits.proofs.wanted.count_in.Goals as goal

pub returns-then-job-limit : goal.returns-then-job-limit
returns-then-job-limit c =
    let test = is_wanted c.args.wanted.now in
    let here = subst (λ (ys : List Stamped). IsSummed test c.args.limit c.args.jobs.now ys c.loop-job.count) c.in-Some.ensures.steps c.loop-job.invariant in
    summed_to test c.args.limit c.args.jobs.now c.next.new.self c.in-Some.job.now c.loop-job.count here c.if-job-limit.true c.requires

pub overflow_add-count : goal.overflow_add-count
overflow_add-count c =
    let test = is_wanted c.args.wanted.now in
    let here = subst (λ (ys : List Stamped). IsSummed test c.args.limit c.args.jobs.now ys c.loop-job.count) c.in-Some.ensures.steps c.loop-job.invariant in
    omega (arith, summed_few test c.args.limit c.args.jobs.now _ c.loop-job.count here, c.iter-job-items.ensures.fits, c.one_if-count.ensures, at_most_one c.is_wanted.result)

pub loop-job-preserved : goal.loop-job-preserved
loop-job-preserved c =
    let test = is_wanted c.args.wanted.now in
    let here = subst (λ (ys : List Stamped). IsSummed test c.args.limit c.args.jobs.now ys c.loop-job.count) c.in-Some.ensures.steps c.loop-job.invariant in
    subst (λ (n : ℕ). IsSummed test c.args.limit c.args.jobs.now c.next.new.self (c.loop-job.count + n)) (sym (c.one_if-count.ensures ∙ ap one_if c.is_wanted.ensures))
    (one_summed test c.args.limit c.args.jobs.now c.next.new.self c.in-Some.job.now c.loop-job.count here c.if-job-limit.false)
