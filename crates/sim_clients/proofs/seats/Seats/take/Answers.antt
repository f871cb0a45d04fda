use Rattle.world_rules.specs.Refusals.{nothing_more}
use Rattle.msg_ids.specs.Moments.{moment_of}
use Rattle.sim_clients.specs.Held.{taken_in}
use Rattle.sim_clients.specs.Told.{TellsRefusal}
use Rattle.sim_clients.proofs.SeatLemmas.{keys_at, stays_err, took_at, took_err, told_at}
use Rattle.sim_clients.proofs.seats.Seats.take.Goals as goal

pub returns-in-Some-clause-refused : goal.returns-in-Some-clause-refused
returns-in-Some-clause-refused g c seats all =
    told_at (λ due. TellsRefusal due c.take.result) nothing_more c.args.c c.in-Some.place c.args.self.now c.self.inside.seats.items seats c.index_mut.result.now c.in-Some.ensures.place.0 c.in-Some.ensures.place.1 c.self.view_is c.index_mut.ensures.value all (λ seat stands. c.take.ensures.refused)

pub returns-in-Some-clause-taken : goal.returns-in-Some-clause-taken
returns-in-Some-clause-taken g c opens seats seat reading all found =
    took_at c.take.result opens c.args.bytes.now c.args.c c.in-Some.place c.args.self.now c.self.inside.seats.items seats c.index_mut.result.now c.take.new.self seat c.in-Some.ensures.place.0 c.self.view_is c.index_mut.ensures.value c.take.ensures.clock all found
    (λ client stands. c.take.ensures.taken opens client reading stands)

pub returns-in-Some-clause-keys : goal.returns-in-Some-clause-keys
returns-in-Some-clause-keys g c =
    keys_at c.in-Some.place c.args.self.now c.self.inside.seats.items c.index_mut.result.now c.take.new.self c.in-Some.ensures.place.1 c.self.view_is c.index_mut.ensures.value c.take.ensures.keys

pub returns-in-Some-clause-unchanged : goal.returns-in-Some-clause-unchanged
returns-in-Some-clause-unchanged g c opens seats reading all =
    stays_err c.take.result c.args.c c.in-Some.place c.args.self.now c.self.inside.seats.items seats c.index_mut.result.now c.take.new.self c.in-Some.ensures.place.0 c.in-Some.ensures.place.1 c.self.view_is c.index_mut.ensures.value c.take.ensures.clock all
    (λ seat stands. took_err c.take.result (λ client. taken_in opens (moment_of c.index_mut.result.now.clock) c.args.bytes.now client) c.take.new.self seat.client (c.take.ensures.taken opens seat.client reading stands.client))
