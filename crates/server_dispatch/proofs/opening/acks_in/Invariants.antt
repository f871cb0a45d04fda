use Rattle.std.proofs.Common.{◌≡◌, ◌≤◌, [], fold, take, vec_len, vec_capacity}
use Rattle.std.specs.List.{AllByRecursion}
use Rattle.server_dispatch.specs.Acks.{noted}
use Rattle.server_dispatch.proofs.opening.acks_in.Given as goal

-- those that are passed are noted, and none is above the greatest
abbrev pub invariant-loop-judgement : goal.invariant-loop-judgement
invariant-loop-judgement l =
    (l.acks.items ≡ fold noted [] (take l.judgement-index l.judged)) × (vec_len l.acks ≤ l.judgement-index) × (vec_capacity l.acks ≡ vec_capacity l.fn.acks)
    × AllByRecursion (λ number. number ≤ l.greatest) l.acks.items
