use Rattle.std.proofs.Common.{ap, refl, Ok}
use Rattle.world_rules.specs.Refusals.{nothing_more}
use Rattle.sim_clients.specs.Told.{TellsRefusal}
use Rattle.sim_clients.specs.Standing.{keys_of}
use Rattle.sim_clients.proofs.SeatLemmas.{keys_at, set_at, told_at}
use Rattle.sim_clients.proofs.seats.Seats.set_clock.Goals as goal

pub returns-in-Some-clause-refused : goal.returns-in-Some-clause-refused
returns-in-Some-clause-refused c seats all =
    told_at (λ due. TellsRefusal {X = Unit {0}} due (Ok tt)) nothing_more c.args.c c.in-Some.place c.args.self.now c.self.inside.seats.items seats c.index_mut.result.now c.in-Some.ensures.place.0 c.in-Some.ensures.place.1 c.self.view_is c.index_mut.ensures.value all (λ seat stands. refl)

pub returns-in-Some-clause-stands : goal.returns-in-Some-clause-stands
returns-in-Some-clause-stands c seats all =
    set_at c.args.at c.args.c c.in-Some.place c.args.self.now c.self.inside.seats.items seats c.index_mut.result.now c.set.new.self c.in-Some.ensures.place.0 c.in-Some.ensures.place.1 c.self.view_is c.index_mut.ensures.value c.set.ensures all

pub returns-in-Some-clause-keys : goal.returns-in-Some-clause-keys
returns-in-Some-clause-keys c =
    keys_at c.in-Some.place c.args.self.now c.self.inside.seats.items c.index_mut.result.now c.set.new.self c.in-Some.ensures.place.1 c.self.view_is c.index_mut.ensures.value (ap keys_of c.set.ensures)
