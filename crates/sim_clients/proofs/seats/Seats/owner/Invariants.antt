use Rattle.std.proofs.Common.{◌≡◌, ◌+◌, List, drop}
use Rattle.world_rules.specs.World.{Seat, owner_from}
use Rattle.sim_clients.specs.Standing.{Stand}
use Rattle.sim_clients.proofs.seats.Seats.owner.Given as goal

abbrev pub invariant-loop-place : goal.invariant-loop-place
invariant-loop-place l =
    (seats : List Seat) → Stand l.self-inside.seats.items seats
    → owner_from 1 l.session seats ≡ owner_from (l.place + 1) l.session (drop l.place seats)
