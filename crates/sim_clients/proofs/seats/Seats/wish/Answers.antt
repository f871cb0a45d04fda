use Rattle.world_rules.specs.Refusals.{nothing_more, stands_open}
use Rattle.client_core.specs.Holding.{wished}
use Rattle.sim_clients.specs.Told.{TellsRefusal}
use Rattle.sim_clients.proofs.SeatLemmas.{becomes_ok, keys_at, on_ok, told_at}
use Rattle.sim_clients.proofs.seats.Seats.wish.Goals as goal

pub returns-in-Some-clause-refused : goal.returns-in-Some-clause-refused
returns-in-Some-clause-refused c seats all =
    told_at (λ due. TellsRefusal due c.wish.result) (λ seat. stands_open seat nothing_more) c.args.c c.in-Some.place c.args.self.now c.self.inside.seats.items seats c.index_mut.result.now
    c.in-Some.ensures.place.0 c.in-Some.ensures.place.1 c.self.view_is c.index_mut.ensures.value all (λ seat stands. c.wish.ensures.refused seat stands.client)

pub returns-in-Some-clause-stands : goal.returns-in-Some-clause-stands
returns-in-Some-clause-stands c =
    becomes_ok c.wish.result (λ seat. wished c.args.wish seat.client) c.args.c c.in-Some.place c.args.self.now c.self.inside.seats.items c.index_mut.result.now c.wish.new.self
    c.in-Some.ensures.place.0 c.self.view_is c.index_mut.ensures.value c.wish.ensures.clock (λ seat stands. on_ok c.wish.result _ _ (λ next. next seat.client stands.client) c.wish.ensures.stands)

pub returns-in-Some-clause-keys : goal.returns-in-Some-clause-keys
returns-in-Some-clause-keys c =
    keys_at c.in-Some.place c.args.self.now c.self.inside.seats.items c.index_mut.result.now c.wish.new.self c.in-Some.ensures.place.1 c.self.view_is c.index_mut.ensures.value c.wish.ensures.keys
