use Rattle.client_rules.specs.Events.{unless_fault}
use Rattle.world_rules.specs.Refusals.{goes_on}
use Rattle.sim_clients.specs.Told.{not_taken}
use Rattle.sim_clients.specs.Told.{TellsRefusal}
use Rattle.sim_clients.proofs.SeatLemmas.{becomes_ok, if_ok, keys_at, on_ok, seat_at, told_at}
use Rattle.sim_clients.proofs.seats.Seats.submit.Goals as goal

pub returns-in-Some-clause-refused : goal.returns-in-Some-clause-refused
returns-in-Some-clause-refused c seats all =
    told_at (λ due. TellsRefusal due c.submit.result) (λ seat. goes_on seat (not_taken c.args.body.now c.args.after)) c.args.c c.in-Some.place c.args.self.now c.self.inside.seats.items seats c.index_mut.result.now
    c.in-Some.ensures.place.0 c.in-Some.ensures.place.1 c.self.view_is c.index_mut.ensures.value all (λ seat stands. c.submit.ensures.refused seat stands.client)

pub returns-in-Some-clause-stands : goal.returns-in-Some-clause-stands
returns-in-Some-clause-stands c =
    becomes_ok c.submit.result (λ seat. unless_fault c.args.body.now c.args.after seat.client) c.args.c c.in-Some.place c.args.self.now c.self.inside.seats.items c.index_mut.result.now c.submit.new.self
    c.in-Some.ensures.place.0 c.self.view_is c.index_mut.ensures.value c.submit.ensures.clock (λ seat stands. on_ok c.submit.result _ _ (λ next. next seat.client stands.client) c.submit.ensures.stands)

pub returns-in-Some-clause-keys : goal.returns-in-Some-clause-keys
returns-in-Some-clause-keys c =
    keys_at c.in-Some.place c.args.self.now c.self.inside.seats.items c.index_mut.result.now c.submit.new.self c.in-Some.ensures.place.1 c.self.view_is c.index_mut.ensures.value c.submit.ensures.keys

pub returns-in-Some-clause-call : goal.returns-in-Some-clause-call
returns-in-Some-clause-call c =
    if_ok c.submit.result _ _ (λ call told seats seat all found. told seat.client
    (seat_at c.args.c c.in-Some.place c.args.self.now c.self.inside.seats.items seats c.index_mut.result.now seat c.in-Some.ensures.place.0 c.self.view_is c.index_mut.ensures.value all found).client) c.submit.ensures.call
