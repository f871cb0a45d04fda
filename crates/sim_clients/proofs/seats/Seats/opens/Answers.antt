use Rattle.world_rules.specs.Refusals.{nothing_more}
use Rattle.sim_clients.specs.Told.{TellsRefusal}
use Rattle.sim_clients.proofs.SeatLemmas.{seat_at, told_at}
use Rattle.sim_clients.proofs.seats.Seats.opens.Goals as goal

pub returns-in-Some-clause-refused : goal.returns-in-Some-clause-refused
returns-in-Some-clause-refused g c seats all =
    told_at (λ due. TellsRefusal due c.opens.result) nothing_more c.args.c c.in-Some.place c.args.self.now c.self.inside.seats.items seats c.index.result.now c.in-Some.ensures.place.0 c.in-Some.ensures.place.1 c.self.view_is c.index.ensures all (λ seat stands. c.opens.ensures.refused)

pub returns-in-Some-clause-told : goal.returns-in-Some-clause-told
returns-in-Some-clause-told g c opens seats seat reading all found =
    c.opens.ensures.told opens seat reading (seat_at c.args.c c.in-Some.place c.args.self.now c.self.inside.seats.items seats c.index.result.now seat c.in-Some.ensures.place.0 c.self.view_is c.index.ensures all found)
