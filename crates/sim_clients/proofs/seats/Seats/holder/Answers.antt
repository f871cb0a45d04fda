use Rattle.std.proofs.Common.{sym, subst}
use Rattle.client_core.specs.Holding.{kept_of}
use Rattle.client_core.specs.Kept.{Stands}
use Rattle.sim_clients.specs.Standing.{StandsFor}
use Rattle.sim_clients.specs.Told.{IsClientOf}
use Rattle.sim_clients.proofs.PlaceLemmas.{no_seat}
use Rattle.sim_clients.proofs.SeatLemmas.{found_at}
use Rattle.sim_clients.proofs.seats.Seats.holder.Goals as goal

pub returns-in-Some-clause-stands : goal.returns-in-Some-clause-stands
returns-in-Some-clause-stands c seats all =
    found_at (λ found. IsClientOf c.holder.result.now found) c.args.c c.in-Some.place c.args.self.now c.self.inside.seats.items seats c.index.result.now
    c.in-Some.ensures.place.0 c.in-Some.ensures.place.1 c.self.view_is c.index.ensures all (λ seat stands. subst (λ held. Stands (kept_of held) seat.client) (sym c.holder.ensures) stands.client)

pub returns-in-None-clause-stands : goal.returns-in-None-clause-stands
returns-in-None-clause-stands c seats all = no_seat StandsFor c.args.c c.args.self.now seats all c.in-None.ensures.none
