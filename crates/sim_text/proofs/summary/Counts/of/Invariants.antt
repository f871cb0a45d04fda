use Rattle.std.proofs.Common.{◌≡◌, ◌*◌, ◌^◌, ◌≤◌, List, take}
use Rattle.std.specs.List.{flat_map}
use Rattle.client_rules.specs.Client.{calls_of}
use Rattle.world_rules.specs.World.{Seat}
use Rattle.sim_text.specs.Counts.{tally_of}
use Rattle.sim_text.proofs.summary.Counts.of.Given as goal

-- the calls of the clients so far are counted
abbrev pub invariant-loop-place : goal.invariant-loop-place
invariant-loop-place g l =
    ((seats : List Seat) → g.C.Clients.stands l.clients seats → l.counts ≡ tally_of (flat_map (λ (seat : Seat). calls_of seat.client) (take l.place seats)))
    × (l.counts.calls ≤ l.place * 2 ^ 32)
