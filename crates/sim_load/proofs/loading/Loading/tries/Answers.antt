use Rattle.std.proofs.Common.{◌≡◌, ◌∙◌, ◌+◌, ◌-◌, ◌*◌, ◌%◌, ◌<◌, ◌≤◌, ℕ, zero, suc, Bool, true, false, not, None, Some, [], ◌∷◌, ◌++◌, length, add-one, ap, arith, refl, sym, subst}
use Rattle.std.proofs.lemmas.Bool.{ltb-false, ltb-true}
use Rattle.std.specs.Prelude.{IfOk, OnOk, is_some}
use Rattle.sched_text.specs.declared.event.Event.{Event}
use Rattle.sched_text.specs.declared.event.Event.TheVariants as line
use Rattle.world_rules.specs.Load.{Settling, call_of_load, does, first_ungiven, gives, goes_on, next_step, repeats, restarts, round, rounds, settled}
use Rattle.world_rules.specs.Refusals.{refusal}
use Rattle.world_rules.specs.Setting.{Setting}
use Rattle.world_rules.specs.World.{begins, counted_job}
use Rattle.sim_world.specs.Worlds.{Stands as WorldStands, World, world_setting}
use Rattle.sim_load.specs.Loading.{Flushed, Goes, Loading, OfEach, Rests, Stands, Tried}
use Rattle.sim_load.specs.Plain.{IsOfLoad}
use Rattle.sim_load.proofs.LoadSteps.{flush-goes, given-next, job-told, not-repeated, not-restarted, of-ring, packets-of, refused-same, repeated, restarted, then-of, tried-by, went, worked-next}
use Rattle.sim_load.proofs.loading.Loading.tries.Goals as goal

pub returns-clause-tried : goal.returns-clause-tried
returns-clause-tried g c =
    let lock = g.S.Seal.lock in
    let draws = g.D.Draw.step in
    let serve = g.V.Service.step in
    let fresh = g.V.Service.fresh_state in
    let keys = g.S.Seal.keys in
    let inside = c.self.inside in
    let before : Loading g.row.S.Denot g.row.V.Denot g.row.D.Denot = record { world = inside.world; given = inside.given } in
    let after : Loading g.row.S.Denot g.row.V.Denot g.row.D.Denot = record { world = c.step.new.self; given = inside.given } in
    subst (λ (kept : Loading g.row.S.Denot g.row.V.Denot g.row.D.Denot). OfEach lock draws serve fresh (keys kept.world.host.server.seal) kept
    (λ setting settling. IfOk c.answered.result (λ is_done. Tried setting settling c.args.event.now is_done after))) c.self.view_is
    (λ sealing settling is stands.
    tried-by (world_setting draws serve fresh (keys inside.world.host.server.seal) sealing) settling c.args.event.now before after c.step.result c.answered.result
    c.answered.ensures c.requires.of_load stands (c.step.ensures.refused sealing settling.world is stands.world) (c.step.ensures.stands sealing settling.world is stands.world)
    (c.step.ensures.unchanged sealing settling.world is stands.world) (c.step.ensures.same_draw sealing settling.world is stands.world) refl)
