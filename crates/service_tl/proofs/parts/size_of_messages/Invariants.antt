use Rattle.std.proofs.Common.{◌≡◌, ◌+◌, take, sum_by}
use Rattle.service_tl.specs.Parts.{message_size}
use Rattle.service_tl.proofs.parts.size_of_messages.Given as goal

abbrev pub invariant-loop-message : goal.invariant-loop-message
invariant-loop-message l = l.size ≡ 4 + sum_by message_size (take l.message-index l.messages)
