use Rattle.waits.specs.Wanted.{is_wanted}
use Rattle.waits.proofs.Searching.{IsSummed}
use Rattle.waits.proofs.wanted.count_in.Given as goal

-- those that are passed are counted
abbrev pub invariant-loop-job : goal.invariant-loop-job
invariant-loop-job l = IsSummed (is_wanted l.wanted) l.limit l.jobs l.job-iterator l.count
