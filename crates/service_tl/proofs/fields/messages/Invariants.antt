use Rattle.std.proofs.Common.{◌≡◌, ◌-◌, length}
use Rattle.service_tl.specs.Fields.{message_at, items_at}
use Rattle.service_tl.proofs.Loop.{with_front}
use Rattle.service_tl.proofs.fields.messages.Given as goal

abbrev pub invariant-loop : goal.invariant-loop
invariant-loop l = record {
  so_far : with_front l.messages (items_at message_at (l.count - l.counter) l.reader) ≡ items_at message_at l.count l.initial.reader;
  counted : length l.messages ≡ l.counter;
}
