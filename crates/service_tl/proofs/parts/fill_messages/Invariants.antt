use Rattle.std.proofs.Common.{◌≡◌, ◌+◌, ◌++◌, length, take, sum_by}
use Rattle.std.specs.List.{flat_map}
use Rattle.tl_codec.specs.Spelling.{Int, spelling}
use Rattle.service_tl.specs.Fields.{message_row}
use Rattle.service_tl.specs.Parts.{message_size}
use Rattle.service_tl.proofs.parts.fill_messages.Given as goal

abbrev pub invariant-loop-message : goal.invariant-loop-message
invariant-loop-message l = record {
  so_far : l.into.bytes ≡ l.fn.into.bytes ++ (spelling Int (length l.messages) ++ flat_map message_row (take l.message-index l.messages));
  room : l.into.room + (4 + sum_by message_size (take l.message-index l.messages)) ≡ l.fn.into.room;
}
