use Rattle.std.proofs.Common.{◌≡◌, ◌-◌, ◌*◌, ◌≤◌, ◌++◌, length}
use Rattle.tl_codec.specs.Reading.{longs_in}
use Rattle.tl_codec.proofs.reader.numbers_of.Given as goal

abbrev pub invariant-loop : goal.invariant-loop
invariant-loop l = record {
  enough : 8 * (l.count - l.counter) ≤ length l.left;
  so_far : l.numbers.items ++ longs_in (l.count - l.counter) l.left ≡ longs_in l.count l.bytes;
}
