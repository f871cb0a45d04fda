use Rattle.std.proofs.Common.{◌≡◌, ◌∙◌, ◌+◌, ◌-◌, ◌*◌, ◌%◌, ◌<◌, ◌≤◌, ℕ, zero, suc, Bool, true, false, not, None, Some, [], ◌∷◌, ◌++◌, length, add-one, ap, arith, refl, sym, subst}
use Rattle.std.proofs.lemmas.Bool.{ltb-false, ltb-true}
use Rattle.std.specs.Prelude.{IfOk, OnOk, is_some}
use Rattle.sched_text.specs.declared.event.Event.{Event}
use Rattle.sched_text.specs.declared.event.Event.TheVariants as line
use Rattle.world_rules.specs.Load.{Settling, call_of_load, does, first_ungiven, gives, goes_on, next_step, repeats, restarts, round, rounds, settled}
use Rattle.world_rules.specs.Refusals.{refusal}
use Rattle.world_rules.specs.Setting.{Setting}
use Rattle.world_rules.specs.World.{begins, counted_job}
use Rattle.sim_world.specs.Worlds.{Stands as WorldStands, World, world_setting}
use Rattle.sim_load.specs.Loading.{Flushed, Goes, Loading, OfEach, Rests, Stands, Tried}
use Rattle.sim_load.specs.Plain.{IsOfLoad}
use Rattle.sim_load.proofs.LoadSteps.{flush-goes, given-next, job-told, not-repeated, not-restarted, of-ring, packets-of, refused-same, repeated, restarted, then-of, tried-by, went, worked-next}
use Rattle.sim_load.proofs.loading.Loading.calls.Goals as goal

pub does-requires : goal.does-requires
does-requires g c =
    let lock = g.S.Seal.lock in
    let draws = g.D.Draw.step in
    let serve = g.V.Service.step in
    let fresh = g.V.Service.fresh_state in
    let keys = g.S.Seal.keys in
    record { of_load = subst (λ (event : Event). IsOfLoad event) (sym c.in_ok-call.ensures) refl }

pub returns-clause-stands : goal.returns-clause-stands
returns-clause-stands g c =
    let lock = g.S.Seal.lock in
    let draws = g.D.Draw.step in
    let serve = g.V.Service.step in
    let fresh = g.V.Service.fresh_state in
    let keys = g.S.Seal.keys in
    let old = c.args.self.now in
    let ring = keys old.world.host.server.seal in
    subst (λ (event : Event). OfEach lock draws serve fresh ring old (λ setting settling. OnOk c.does.result (Stands setting c.does.new.self (does setting event settling))))
    c.in_ok-call.ensures c.does.ensures.stands
