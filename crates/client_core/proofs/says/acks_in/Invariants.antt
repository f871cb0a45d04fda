use Rattle.std.proofs.Common.{◌≡◌, ◌≤◌, length, take, vec_len, vec_capacity}
use Rattle.client_core.proofs.says.acks_in.Given as goal

abbrev pub invariant-loop-k : goal.invariant-loop-k
invariant-loop-k l = record {
  items : l.list.items ≡ take l.k l.calls.acks;
  count : vec_len l.list ≡ l.k;
  room : length l.calls.acks ≤ vec_capacity l.list;
}
