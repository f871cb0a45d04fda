use Rattle.client_rules.specs.Asking.{attached}
use Rattle.world_rules.specs.Refusals.{goes_on, nothing_more}
use Rattle.sim_clients.specs.Told.{TellsRefusal}
use Rattle.sim_clients.proofs.SeatLemmas.{becomes_ok, keys_at, on_ok, told_at}
use Rattle.sim_clients.proofs.seats.Seats.attach.Goals as goal

pub returns-in-Some-clause-refused : goal.returns-in-Some-clause-refused
returns-in-Some-clause-refused c seats all =
    told_at (λ due. TellsRefusal due c.attach.result) (λ seat. goes_on seat nothing_more) c.args.c c.in-Some.place c.args.self.now c.self.inside.seats.items seats c.index_mut.result.now
    c.in-Some.ensures.place.0 c.in-Some.ensures.place.1 c.self.view_is c.index_mut.ensures.value all (λ seat stands. c.attach.ensures.refused seat stands.client)

pub returns-in-Some-clause-stands : goal.returns-in-Some-clause-stands
returns-in-Some-clause-stands c =
    becomes_ok c.attach.result (λ seat. attached seat.client) c.args.c c.in-Some.place c.args.self.now c.self.inside.seats.items c.index_mut.result.now c.attach.new.self
    c.in-Some.ensures.place.0 c.self.view_is c.index_mut.ensures.value c.attach.ensures.clock (λ seat stands. on_ok c.attach.result _ _ (λ next. next seat.client stands.client) c.attach.ensures.stands)

pub returns-in-Some-clause-keys : goal.returns-in-Some-clause-keys
returns-in-Some-clause-keys c =
    keys_at c.in-Some.place c.args.self.now c.self.inside.seats.items c.index_mut.result.now c.attach.new.self c.in-Some.ensures.place.1 c.self.view_is c.index_mut.ensures.value c.attach.ensures.keys
