use Rattle.std.proofs.Common.{◌≡◌, subst}
use Rattle.std.specs.Prelude.{IfOk, OnErr, OnOk}
use Rattle.msg_ids.specs.Moments.{moment_of}
use Rattle.client_rules.specs.Flush.{flush}
use Rattle.client_core.specs.Flushed.{setting_of}
use Rattle.client_core.specs.Holding.{kept_of}
use Rattle.client_core.specs.Kept.{Stands}
use Rattle.world_rules.specs.Refusals.{at_client, goes_on, nothing_more, unsent}
use Rattle.sim_clients.specs.Standing.{flushed_by}
use Rattle.sim_clients.specs.Told.{TellsSent, TellsUnsent}
use Rattle.sim_clients.proofs.SeatLemmas.{becomes_ok, found_at, has_keys_at, keys_at, seat_at, stays_err}
use Rattle.sim_clients.proofs.seats.Seats.flush.Goals as goal

pub flush-requires : goal.flush-requires
flush-requires g c = record { keys = has_keys_at (g.S.Seal.keys c.args.seal.now) c.in-Some.place c.args.self.now c.self.inside.seats.items c.index_mut.result.now c.in-Some.ensures.place.1 c.self.view_is c.index_mut.ensures.value c.requires.keys }

pub returns-in-Some-clause-refused : goal.returns-in-Some-clause-refused
returns-in-Some-clause-refused g c seats all =
    found_at (λ found. TellsUnsent (at_client found (λ seat. goes_on seat nothing_more)) (at_client found (λ seat. goes_on seat (λ other. unsent (flushed_by (setting_of g.D.Draw.step (g.S.Seal.keys c.args.seal.now)) c.args.draw.now other).answer))) c.flush.result)
    c.args.c c.in-Some.place c.args.self.now c.self.inside.seats.items seats c.index_mut.result.now c.in-Some.ensures.place.0 c.in-Some.ensures.place.1 c.self.view_is c.index_mut.ensures.value all
    (λ seat stands. subst (λ clock. TellsUnsent (goes_on seat nothing_more) (goes_on seat (λ other. unsent (flush (setting_of g.D.Draw.step (g.S.Seal.keys c.args.seal.now)) (moment_of clock) other.client c.args.draw.now).answer)) c.flush.result) stands.clock (c.flush.ensures.refused seat stands.client))

pub returns-in-Some-clause-sent : goal.returns-in-Some-clause-sent
returns-in-Some-clause-sent g c seats seat all found =
    let stands = seat_at c.args.c c.in-Some.place c.args.self.now c.self.inside.seats.items seats c.index_mut.result.now seat c.in-Some.ensures.place.0 c.self.view_is c.index_mut.ensures.value all found in
    subst (λ clock. IfOk c.flush.result (TellsSent g.S.Seal.lock (g.S.Seal.keys c.args.seal.now) (flush (setting_of g.D.Draw.step (g.S.Seal.keys c.args.seal.now)) (moment_of clock) seat.client c.args.draw.now).answer)) stands.clock (c.flush.ensures.sent seat.client stands.client)

pub returns-in-Some-clause-stands : goal.returns-in-Some-clause-stands
returns-in-Some-clause-stands g c =
    becomes_ok c.flush.result (λ seat. (flushed_by (setting_of g.D.Draw.step (g.S.Seal.keys c.args.seal.now)) c.args.draw.now seat).client) c.args.c c.in-Some.place c.args.self.now c.self.inside.seats.items c.index_mut.result.now c.flush.new.self
    c.in-Some.ensures.place.0 c.self.view_is c.index_mut.ensures.value c.flush.ensures.clock
    (λ seat stands. subst (λ clock. OnOk c.flush.result (Stands (kept_of c.flush.new.self.holder) (flush (setting_of g.D.Draw.step (g.S.Seal.keys c.args.seal.now)) (moment_of clock) seat.client c.args.draw.now).client)) stands.clock (c.flush.ensures.stands seat.client stands.client))

pub returns-in-Some-clause-drawn : goal.returns-in-Some-clause-drawn
returns-in-Some-clause-drawn g c seats seat all found =
    let stands = seat_at c.args.c c.in-Some.place c.args.self.now c.self.inside.seats.items seats c.index_mut.result.now seat c.in-Some.ensures.place.0 c.self.view_is c.index_mut.ensures.value all found in
    subst (λ clock. OnOk c.flush.result (c.flush.new.draw ≡ (flush (setting_of g.D.Draw.step (g.S.Seal.keys c.args.seal.now)) (moment_of clock) seat.client c.args.draw.now).draw)) stands.clock (c.flush.ensures.drawn seat.client stands.client)

pub returns-in-Some-clause-keys : goal.returns-in-Some-clause-keys
returns-in-Some-clause-keys g c =
    keys_at c.in-Some.place c.args.self.now c.self.inside.seats.items c.index_mut.result.now c.flush.new.self c.in-Some.ensures.place.1 c.self.view_is c.index_mut.ensures.value c.flush.ensures.keys

pub returns-in-Some-clause-unchanged : goal.returns-in-Some-clause-unchanged
returns-in-Some-clause-unchanged g c seats all =
    stays_err c.flush.result c.args.c c.in-Some.place c.args.self.now c.self.inside.seats.items seats c.index_mut.result.now c.flush.new.self c.in-Some.ensures.place.0 c.in-Some.ensures.place.1 c.self.view_is c.index_mut.ensures.value c.flush.ensures.clock all
    (λ seat stands. c.flush.ensures.unchanged seat.client stands.client)

pub returns-in-Some-clause-same_draw : goal.returns-in-Some-clause-same_draw
returns-in-Some-clause-same_draw g c seats all =
    found_at (λ found. OnErr c.flush.result (c.flush.new.draw ≡ c.args.draw.now)) c.args.c c.in-Some.place c.args.self.now c.self.inside.seats.items seats c.index_mut.result.now c.in-Some.ensures.place.0 c.in-Some.ensures.place.1 c.self.view_is c.index_mut.ensures.value all
    (λ seat stands. c.flush.ensures.same_draw seat.client stands.client)
