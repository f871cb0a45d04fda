use Rattle.std.proofs.Common.{◌≡◌, List, ◌<◌, ◌≤◌, ◌++◌, ◌∙◌, length, map, take, drop, sym, subst, ap, refl, add-one, arith}
use Rattle.std.specs.Prelude.{slice_set}
use Rattle.world_rules.specs.Run.{set}
use Rattle.sim_clients.specs.Standing.{HasKeysOf, HaveKeys, Kept, Stand, StandsFor, clocked}
use Rattle.sim_clients.proofs.PlaceLemmas.{all_changed, all_done, all_mapped, one_more}
use Rattle.sim_clients.proofs.seats.Seats.set_all.Goals as goal

pub loop-place-preserved : goal.loop-place-preserved
loop-place-preserved c =
    let less : c.loop-place.place < length c.loop-place.self-inside.seats.items = grind arith in (
      subst (λ next. slice_set c.loop-place.self-inside.seats.items c.loop-place.place c.set.new.self ≡ map (clocked c.args.at) (take next c.self.inside.seats.items) ++ drop next c.self.inside.seats.items) (sym (add-one c.loop-place.place))
          (one_more (clocked c.args.at) c.loop-place.place c.self.inside.seats.items c.loop-place.self-inside.seats.items c.index_mut.result.now c.set.new.self
          c.loop-place.invariant.0 c.index_mut.ensures.value less c.set.ensures),
      c.loop-place.invariant.1,
      c.loop-place.invariant.2,
    )

pub returns-clause-stands : goal.returns-clause-stands
returns-clause-stands c seats all =
    let most : length c.self.inside.seats.items ≤ c.loop-place.place = grind arith in
    let done : c.loop-place.self-inside.seats.items ≡ map (clocked c.args.at) c.args.self.now =
    all_done (clocked c.args.at) c.loop-place.place c.self.inside.seats.items c.loop-place.self-inside.seats.items c.loop-place.invariant.0 most
    ∙ ap (λ (list : List Kept). map (clocked c.args.at) list) c.self.view_is in
    subst (λ list. Stand list (map (set c.args.at) seats)) (sym done)
    (all_changed StandsFor (clocked c.args.at) (set c.args.at) c.args.self.now seats (λ kept seat stands. record { client = stands.client; clock = refl }) all)

pub returns-clause-keys : goal.returns-clause-keys
returns-clause-keys c ring all =
    let most : length c.self.inside.seats.items ≤ c.loop-place.place = grind arith in
    let done : c.loop-place.self-inside.seats.items ≡ map (clocked c.args.at) c.args.self.now =
    all_done (clocked c.args.at) c.loop-place.place c.self.inside.seats.items c.loop-place.self-inside.seats.items c.loop-place.invariant.0 most
    ∙ ap (λ (list : List Kept). map (clocked c.args.at) list) c.self.view_is in
    subst (λ list. HaveKeys ring list) (sym done) (all_mapped (HasKeysOf ring) (clocked c.args.at) c.args.self.now (λ kept has. has) all)
