use Rattle.std.proofs.Common.{◌≡◌, take}
use Rattle.waits.specs.Stamps.{count_before}
use Rattle.waits.specs.Jobs.{is_ready}
use Rattle.waits.specs.Parts.{all_of}
use Rattle.waits.proofs.owners.Owners.ready_before.Given as goal

-- those of the sessions that were passed are counted
abbrev pub invariant-loop-place : goal.invariant-loop-place
invariant-loop-place l = l.count ≡ count_before (λ x. is_ready x.one) l.limit (all_of (take l.place l.self-inside.list.items))
