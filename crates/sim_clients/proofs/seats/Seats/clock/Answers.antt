use Rattle.std.proofs.Common.{◌≡◌, ℕ, Some, option_map, ap, sym, ◌∙◌}
use Rattle.world_rules.specs.World.{Seat}
use Rattle.sim_clients.specs.Standing.{StandsFor}
use Rattle.sim_clients.proofs.PlaceLemmas.{no_seat}
use Rattle.sim_clients.proofs.SeatLemmas.{found_at}
use Rattle.sim_clients.proofs.seats.Seats.clock.Goals as goal

pub returns-in-Some : goal.returns-in-Some
returns-in-Some c seats all =
    found_at (λ found. Some c.clock.result ≡ option_map (λ (seat : Seat). seat.clock) found) c.args.c c.in-Some.place c.args.self.now c.self.inside.seats.items seats c.index.result.now
    c.in-Some.ensures.place.0 c.in-Some.ensures.place.1 c.self.view_is c.index.ensures all (λ seat stands. ap (λ (n : ℕ). Some n) (c.clock.ensures ∙ stands.clock))

pub returns-in-None : goal.returns-in-None
returns-in-None c seats all =
    ap (λ found. option_map (λ (seat : Seat). seat.clock) found) (sym (no_seat StandsFor c.args.c c.args.self.now seats all c.in-None.ensures.none))
