use Rattle.std.proofs.Common.{◌≡◌, ◌≤◌, length, take, min, vec_len, vec_capacity}
use Rattle.call_table.specs.Kept.{numbers_in}
use Rattle.client_rules.specs.Filling.{numbers_max}
use Rattle.client_core.proofs.says.living_in.Given as goal

abbrev pub invariant-loop-k : goal.invariant-loop-k
invariant-loop-k l = record {
  items : l.list.items ≡ take l.k (numbers_in l.calls.rows);
  count : vec_len l.list ≡ l.k;
  room : min (length (numbers_in l.calls.rows)) numbers_max ≤ vec_capacity l.list;
}
