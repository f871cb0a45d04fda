use Rattle.std.proofs.Common.{◌≡◌, ◌++◌, drop, take, map}
use Rattle.std.specs.Prelude.{vec_len}
use Rattle.sim_clients.specs.Standing.{clocked}
use Rattle.sim_clients.proofs.seats.Seats.set_all.Given as goal

abbrev pub invariant-loop-place : goal.invariant-loop-place
invariant-loop-place l =
    (l.self-inside.seats.items ≡ map (clocked l.at) (take l.place l.initial.self-inside.seats.items) ++ drop l.place l.initial.self-inside.seats.items)
    × (vec_len l.self-inside.seats ≡ l.place-end) × (vec_len l.self-inside.seats ≡ vec_len l.initial.self-inside.seats)
