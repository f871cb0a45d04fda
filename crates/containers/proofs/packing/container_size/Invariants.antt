use Rattle.std.proofs.Common.{◌≡◌, ◌+◌, length, take}
use Rattle.std.specs.Prelude.{sum_by}
use Rattle.containers.specs.Container.{container_head, message_head}
use Rattle.containers.proofs.packing.container_size.Given as goal

-- the parts that were passed are counted
abbrev pub invariant-loop-part : goal.invariant-loop-part
invariant-loop-part l = l.size ≡ container_head + sum_by (λ part. message_head + length part.body.now) (take l.part-index l.parts)
