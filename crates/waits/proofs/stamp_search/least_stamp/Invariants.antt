use Rattle.std.proofs.Common.{◌-◌}
use Rattle.waits.proofs.Taken.{IsBetween}
use Rattle.waits.proofs.stamp_search.least_stamp.Given as goal

abbrev pub invariant-loop-low : goal.invariant-loop-low
invariant-loop-low l = IsBetween l.owners.jobs l.count l.low l.high

abbrev pub decreases-loop-low : goal.decreases-loop-low
decreases-loop-low l = l.high.stamp - l.low.stamp
