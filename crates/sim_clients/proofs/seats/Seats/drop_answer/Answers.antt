use Rattle.client_rules.specs.Asking.{dropped}
use Rattle.world_rules.specs.Refusals.{stands_open, undropped}
use Rattle.sim_clients.specs.Told.{TellsRefusal}
use Rattle.sim_clients.proofs.SeatLemmas.{becomes_ok, keys_at, on_ok, told_at}
use Rattle.sim_clients.proofs.seats.Seats.drop_answer.Goals as goal

pub returns-in-Some-clause-refused : goal.returns-in-Some-clause-refused
returns-in-Some-clause-refused c seats all =
    told_at (λ due. TellsRefusal due c.drop_answer.result) (λ seat. stands_open seat (undropped c.args.call.n)) c.args.c c.in-Some.place c.args.self.now c.self.inside.seats.items seats c.index_mut.result.now
    c.in-Some.ensures.place.0 c.in-Some.ensures.place.1 c.self.view_is c.index_mut.ensures.value all (λ seat stands. c.drop_answer.ensures.refused seat stands.client)

pub returns-in-Some-clause-stands : goal.returns-in-Some-clause-stands
returns-in-Some-clause-stands c =
    becomes_ok c.drop_answer.result (λ seat. dropped c.args.call seat.client) c.args.c c.in-Some.place c.args.self.now c.self.inside.seats.items c.index_mut.result.now c.drop_answer.new.self
    c.in-Some.ensures.place.0 c.self.view_is c.index_mut.ensures.value c.drop_answer.ensures.clock (λ seat stands. on_ok c.drop_answer.result _ _ (λ next. next seat.client stands.client) c.drop_answer.ensures.stands)

pub returns-in-Some-clause-keys : goal.returns-in-Some-clause-keys
returns-in-Some-clause-keys c =
    keys_at c.in-Some.place c.args.self.now c.self.inside.seats.items c.index_mut.result.now c.drop_answer.new.self c.in-Some.ensures.place.1 c.self.view_is c.index_mut.ensures.value c.drop_answer.ensures.keys
