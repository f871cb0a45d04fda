use Rattle.std.proofs.Common.{◌≡◌, take}
use Rattle.std.specs.VecDeque.{deque_len, deque_capacity}
use Rattle.outbox.proofs.rows.copy_of.Given as goal

abbrev pub invariant-loop-place : goal.invariant-loop-place
invariant-loop-place l = (l.copy.items ≡ take l.place l.calls.items) × (deque_len l.copy ≡ l.place) × (deque_capacity l.copy ≡ deque_capacity l.calls)
