-- The room for further numbers.
use Rattle.std.proofs.Common.{ℕ, ◌+◌, ◌<◌, ◌≤◌, Bool, true, false, arith}
use Rattle.msg_ids.specs.Moments.{latest_moment}
use Rattle.msg_ids.specs.Counters.{Counters, HasNext, after_next, room}

-- where there is room, there is a next number
pub HasNext-from_room : (counters : Counters) (now : ℕ) → now ≤ latest_moment → 0 < room counters → HasNext counters now
unfolding room
HasNext-from_room counters now early some = (omega arith, omega arith)

-- a message takes one of the room at most
pub room-after_next : (counters : Counters) (now : ℕ) (content : Bool) → now ≤ latest_moment
    → room counters ≤ room (after_next counters now content) + 1
unfolding room
room-after_next counters now true early = omega arith
room-after_next counters now false early = omega arith
