use Rattle.std.proofs.Common.{◌≡◌, ◌+◌, ◌<◌, ◌≤◌, suc, length, drop, add-one, ap, sym, subst, ◌∙◌, arith}
use Rattle.client_core.specs.Holding.{kept_of}
use Rattle.client_core.specs.Kept.{Stands}
use Rattle.world_rules.specs.World.{owner_from}
use Rattle.sim_clients.specs.Standing.{Kept, Stand, StandsFor}
use Rattle.sim_clients.proofs.OwnerLemmas.{owner_found, owner_next, owner_none}
use Rattle.sim_clients.proofs.seats.Seats.owner.Goals as goal

pub returns-then-owns : goal.returns-then-owns
returns-then-owns c seats all =
    let every : Stand c.self.inside.seats.items seats = subst (λ list. Stand list seats) (sym c.self.view_is) all in
    let less : c.loop-place.place < length c.self.inside.seats.items = grind arith in
    sym (c.loop-place.invariant seats every ∙ owner_found StandsFor c.args.session (c.loop-place.place + 1) c.loop-place.place c.self.inside.seats.items seats c.index.result.now every less
    (λ seat stands. sym (c.owns.ensures seat.client (subst (λ holder. Stands (kept_of holder) seat.client) (sym c.holder.ensures) (subst (λ (k : Kept). Stands (kept_of k.holder) seat.client) (sym c.index.ensures) stands.client))) ∙ c.if-owns.true))

pub loop-place-preserved : goal.loop-place-preserved
loop-place-preserved c seats every =
    let less : c.loop-place.place < length c.self.inside.seats.items = grind arith in
    subst (λ next. owner_from 1 c.args.session seats ≡ owner_from (next + 1) c.args.session (drop next seats)) (sym (add-one c.loop-place.place))
    (subst (λ number. owner_from 1 c.args.session seats ≡ owner_from number c.args.session (drop (suc c.loop-place.place) seats)) (ap suc (add-one c.loop-place.place) ∙ sym (add-one (suc c.loop-place.place)))
    (c.loop-place.invariant seats every ∙ owner_next StandsFor c.args.session (c.loop-place.place + 1) c.loop-place.place c.self.inside.seats.items seats c.index.result.now every less
    (λ seat stands. sym (c.owns.ensures seat.client (subst (λ holder. Stands (kept_of holder) seat.client) (sym c.holder.ensures) (subst (λ (k : Kept). Stands (kept_of k.holder) seat.client) (sym c.index.ensures) stands.client))) ∙ c.if-owns.false)))

pub returns : goal.returns
returns c seats all =
    let every : Stand c.self.inside.seats.items seats = subst (λ list. Stand list seats) (sym c.self.view_is) all in
    let most : length c.self.inside.seats.items ≤ c.loop-place.place = grind arith in
    sym (c.loop-place.invariant seats every ∙ owner_none StandsFor c.args.session (c.loop-place.place + 1) c.loop-place.place c.self.inside.seats.items seats every most)
