use Rattle.std.proofs.Common.{◌≡◌, take}
use Rattle.waits.specs.Stamps.{count_before}
use Rattle.waits.specs.Wanted.{is_wanted}
use Rattle.waits.specs.Parts.{all_of}
use Rattle.waits.proofs.owners.Owners.count.Given as goal

-- those of the sessions that were passed are counted
abbrev pub invariant-loop-place : goal.invariant-loop-place
invariant-loop-place l = l.count ≡ count_before (is_wanted l.wanted) l.limit (all_of (take l.place l.self-inside.list.items))
