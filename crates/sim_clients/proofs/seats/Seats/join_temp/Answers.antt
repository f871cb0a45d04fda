use Rattle.std.proofs.Common.{◌<◌, ◌≤◌, ◌++◌, ◌∷◌, [], Some, List, length, ap, sym, subst, ◌∙◌, arith}
use Rattle.std.specs.Prelude.{nat_lt}
use Rattle.draws.specs.Draws.{word_after}
use Rattle.client_rules.specs.Client.{fresh_client, temporary_of}
use Rattle.client_core.specs.Holding.{kept_of}
use Rattle.client_core.specs.Kept.{Stands}
use Rattle.world_rules.specs.Refusals.{NoClient, clients_max, unless}
use Rattle.sim_clients.specs.Standing.{Kept}
use Rattle.sim_clients.proofs.SeatLemmas.{joins_at, refused_memory, room_full, room_left}
use Rattle.sim_clients.proofs.seats.Seats.join_temp.Goals as goal

pub returns-then-len-ge-CLIENTS_MAX-clause-refused : goal.returns-then-len-ge-CLIENTS_MAX-clause-refused
returns-then-len-ge-CLIENTS_MAX-clause-refused g c seats all =
    let full : clients_max ≤ length c.args.self.now = grind arith in
    room_full c.args.self.now seats all full

pub returns-in_err-reserve-clause-refused : goal.returns-in_err-reserve-clause-refused
returns-in_err-reserve-clause-refused g c seats all =
    refused_memory (unless (nat_lt (length seats) clients_max) NoClient) c.from_residual.result c.from_residual.ensures.1
    (let left : length c.args.self.now < clients_max = grind arith in room_left c.args.self.now seats all left)

pub returns-in_err-client-clause-refused : goal.returns-in_err-client-clause-refused
returns-in_err-client-clause-refused g c seats all =
    refused_memory (unless (nat_lt (length seats) clients_max) NoClient) c.from_residual-in_err-client.result c.from_residual-in_err-client.ensures.1
    (let left : length c.args.self.now < clients_max = grind arith in room_left c.args.self.now seats all left)

pub returns-clause-refused : goal.returns-clause-refused
returns-clause-refused g c seats all =
    let left : length c.args.self.now < clients_max = grind arith in
    room_left c.args.self.now seats all left

pub returns-clause-stands : goal.returns-clause-stands
returns-clause-stands g c seats all =
    joins_at c.args.self.now c.push_reserved.new.self.items seats c.new.result (fresh_client c.args.temp (Some (temporary_of c.args.perm c.args.expires)) (word_after g.D.Draw.step 0 c.args.draw.now))
    (c.push_reserved.ensures.items ∙ ap (λ (list : List Kept). list ++ c.new.result ∷ []) (c.reserve.ensures.same ∙ c.self.view_is))
    (ap (λ (k : Kept). k.clock) c.new.ensures) all
    (subst (λ (k : Kept). Stands (kept_of k.holder) (fresh_client c.args.temp (Some (temporary_of c.args.perm c.args.expires)) (word_after g.D.Draw.step 0 c.args.draw.now))) (sym c.new.ensures) c.in_ok-client.ensures.stands)
