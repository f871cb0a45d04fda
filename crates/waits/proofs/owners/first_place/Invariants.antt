use Rattle.waits.specs.Wanted.{is_wanted}
use Rattle.waits.proofs.Places.{IsSought}
use Rattle.waits.proofs.owners.first_place.Given as goal

-- the least one of those that are passed
abbrev pub invariant-loop-owner : goal.invariant-loop-owner
invariant-loop-owner l = IsSought (is_wanted l.wanted) l.list.items l.limit l.owner l.least l.found
