-- Numbers that a client gives while there is room fit their places.
use Rattle.std.proofs.Common.{ℕ, ◌+◌, ◌<◌, ◌≤◌, ◌^◌, Bool, true, false, List, arith}
use Rattle.msg_ids.specs.Moments.{latest_moment}
use Rattle.msg_ids.specs.Counters.{Counters, HasNext, after_next, one_if_content, room}
use Rattle.client_rules.specs.Client.{Client, numbered, time_of, after_message}

-- the laws on room
pub record Room : Type 0 where
  pub has : (counters : Counters) (now : ℕ) → now ≤ latest_moment → 0 < room counters → HasNext counters now
  pub falls : (counters : Counters) (now : ℕ) (content : Bool) → now ≤ latest_moment → room counters ≤ room (after_next counters now content) + 1

timely : (client : Client) → time_of client ≤ latest_moment
timely client = omega arith

one-low : (content : Bool) → one_if_content content ≤ 1
one-low true = omega arith
one-low false = omega arith

pub numbers-fit : Room → (is_content : Bool) (body : List ℕ) (client : Client) → 0 < room client.counters
    → ((numbered is_content body client).number < 2 ^ 64) × ((numbered is_content body client).seq < 2 ^ 32)
numbers-fit law is_content body client left =
    let next = law.has client.counters (time_of client) (timely client) left in
    let number = next.0 in
    let content = next.1 in
    let low = one-low is_content in
    (omega (arith, number), omega (arith, content, low))

pub room-falls : Room → (is_content : Bool) (client : Client) → room client.counters ≤ room (after_message is_content client).counters + 1
room-falls law is_content client = law.falls client.counters (time_of client) is_content (timely client)
