use Rattle.std.proofs.Common.{◌≡◌, ◌-◌, length}
use Rattle.service_tl.specs.Fields.{salt_at, items_at}
use Rattle.service_tl.proofs.Loop.{with_front}
use Rattle.service_tl.proofs.fields.salts.Given as goal

abbrev pub invariant-loop : goal.invariant-loop
invariant-loop l = record {
  so_far : with_front l.rows (items_at salt_at (l.count - l.counter) l.reader) ≡ items_at salt_at l.count l.initial.reader;
  counted : length l.rows ≡ l.counter;
}
