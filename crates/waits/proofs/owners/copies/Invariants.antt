use Rattle.std.proofs.Common.{◌≡◌, take}
use Rattle.waits.proofs.owners.copies.Given as goal

-- those that were passed are copied
abbrev pub invariant-loop-owner : goal.invariant-loop-owner
invariant-loop-owner l = l.copy.items ≡ take l.owner-index l.list.items
