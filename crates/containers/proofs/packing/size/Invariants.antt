use Rattle.std.proofs.Common.{◌≡◌, ◌+◌, length, take}
use Rattle.std.specs.Prelude.{sum_by}
use Rattle.containers.specs.Container.{container_head, message_head}
use Rattle.containers.proofs.packing.size.Given as goal

-- the messages that were passed are counted
abbrev pub invariant-loop-message : goal.invariant-loop-message
invariant-loop-message l = l.size ≡ container_head + sum_by (λ message. message_head + length message.body) (take l.message-index l.messages)
