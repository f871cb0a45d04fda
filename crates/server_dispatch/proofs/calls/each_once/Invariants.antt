use Rattle.std.proofs.Common.{◌≡◌, ◌≤◌, take, vec_len, vec_capacity, length}
use Rattle.server_rules.specs.Calls.{each_once}
use Rattle.server_dispatch.proofs.calls.each_once.Given as goal

-- those that are passed stand there once each
abbrev pub invariant-loop-place : goal.invariant-loop-place
invariant-loop-place l = (l.once.items ≡ each_once (take l.place l.numbers)) × (vec_len l.once ≤ l.place) × (vec_capacity l.once ≡ length l.numbers)
