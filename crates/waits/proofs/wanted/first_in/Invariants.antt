use Rattle.waits.specs.Wanted.{is_wanted}
use Rattle.waits.proofs.Searching.{IsPassed}
use Rattle.waits.proofs.wanted.first_in.Given as goal

-- none of those that are passed is wanted
abbrev pub invariant-loop-job : goal.invariant-loop-job
invariant-loop-job l = IsPassed (is_wanted l.wanted) l.jobs l.job-iterator l.at
