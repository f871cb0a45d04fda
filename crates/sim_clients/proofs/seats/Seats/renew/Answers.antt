use Rattle.draws.specs.Draws.{word_after}
use Rattle.client_rules.specs.Events.{renewed}
use Rattle.world_rules.specs.Refusals.{nothing_more, stands_open}
use Rattle.sim_clients.specs.Told.{TellsRefusal}
use Rattle.sim_clients.proofs.SeatLemmas.{becomes_ok, keys_at, on_ok, told_at}
use Rattle.sim_clients.proofs.seats.Seats.renew.Goals as goal

pub returns-in-Some-clause-refused : goal.returns-in-Some-clause-refused
returns-in-Some-clause-refused g c seats all =
    told_at (λ due. TellsRefusal due c.renew.result) (λ seat. stands_open seat nothing_more) c.args.c c.in-Some.place c.args.self.now c.self.inside.seats.items seats c.index_mut.result.now
    c.in-Some.ensures.place.0 c.in-Some.ensures.place.1 c.self.view_is c.index_mut.ensures.value all (λ seat stands. c.renew.ensures.refused seat stands.client)

pub returns-in-Some-clause-stands : goal.returns-in-Some-clause-stands
returns-in-Some-clause-stands g c =
    becomes_ok c.renew.result (λ seat. renewed (word_after g.D.Draw.step 0 c.args.draw.now) seat.client) c.args.c c.in-Some.place c.args.self.now c.self.inside.seats.items c.index_mut.result.now c.renew.new.self
    c.in-Some.ensures.place.0 c.self.view_is c.index_mut.ensures.value c.renew.ensures.clock (λ seat stands. on_ok c.renew.result _ _ (λ next. next seat.client stands.client) c.renew.ensures.stands)

pub returns-in-Some-clause-keys : goal.returns-in-Some-clause-keys
returns-in-Some-clause-keys g c =
    keys_at c.in-Some.place c.args.self.now c.self.inside.seats.items c.index_mut.result.now c.renew.new.self c.in-Some.ensures.place.1 c.self.view_is c.index_mut.ensures.value c.renew.ensures.keys
