use Rattle.std.proofs.Common.{◌≡◌, ◌++◌}
use Rattle.waits.proofs.owner.Owner.copy.Given as goal

-- those that are copied, and those that aren't yet
abbrev pub invariant-loop-job : goal.invariant-loop-job
invariant-loop-job l = l.self-inside.jobs ≡ l.jobs ++ l.job-iterator
