use Rattle.std.proofs.Common.{◌∙◌, List, sym, subst}
use Rattle.waits.specs.declared.stamped.Stamped.{Stamped}
use Rattle.waits.specs.Wanted.{is_wanted}
use Rattle.waits.proofs.Searching.{IsPassed, all_passed, first_found, one_passed, past_limit}
use Rattle.waits.proofs.wanted.first_in.Goals as goal

pub returns-then-job-limit-clause-none : goal.returns-then-job-limit-clause-none
returns-then-job-limit-clause-none c =
    let test = is_wanted c.args.wanted.now in
    let here = subst (λ (ys : List Stamped). IsPassed test c.args.jobs.now ys c.loop-job.at) c.in-Some.ensures.steps c.loop-job.invariant in
    past_limit test c.args.limit c.args.jobs.now c.next.new.self c.in-Some.job.now c.loop-job.at here c.if-job-limit.true c.requires

pub returns-then-is_wanted-clause-found : goal.returns-then-is_wanted-clause-found
returns-then-is_wanted-clause-found c =
    let test = is_wanted c.args.wanted.now in
    let here = subst (λ (ys : List Stamped). IsPassed test c.args.jobs.now ys c.loop-job.at) c.in-Some.ensures.steps c.loop-job.invariant in
    first_found test c.args.limit c.args.jobs.now c.next.new.self c.in-Some.job.now c.loop-job.at here c.if-job-limit.false (sym c.is_wanted.ensures ∙ c.if-is_wanted.true) c.requires

pub loop-job-preserved : goal.loop-job-preserved
loop-job-preserved c =
    let test = is_wanted c.args.wanted.now in
    let here = subst (λ (ys : List Stamped). IsPassed test c.args.jobs.now ys c.loop-job.at) c.in-Some.ensures.steps c.loop-job.invariant in
    one_passed test c.args.jobs.now c.next.new.self c.in-Some.job.now c.loop-job.at here (sym c.is_wanted.ensures ∙ c.if-is_wanted.false)

pub returns-clause-none : goal.returns-clause-none
returns-clause-none c =
    let test = is_wanted c.args.wanted.now in
    all_passed test c.args.limit c.args.jobs.now c.loop-job.at (subst (λ (ys : List Stamped). IsPassed test c.args.jobs.now ys c.loop-job.at) c.in-None.ensures.steps.0 c.loop-job.invariant)
