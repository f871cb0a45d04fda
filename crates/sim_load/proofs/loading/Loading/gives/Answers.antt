use Rattle.std.proofs.Common.{◌≡◌, ◌∙◌, ◌+◌, ◌-◌, ◌*◌, ◌%◌, ◌<◌, ◌≤◌, ℕ, zero, suc, Bool, true, false, not, None, Some, [], ◌∷◌, ◌++◌, length, add-one, ap, arith, refl, sym, subst}
use Rattle.std.proofs.lemmas.Bool.{ltb-false, ltb-true}
use Rattle.std.specs.Prelude.{IfOk, OnOk, is_some}
use Rattle.sched_text.specs.declared.event.Event.{Event}
use Rattle.sched_text.specs.declared.event.Event.TheVariants as line
use Rattle.world_rules.specs.Load.{Settling, call_of_load, does, first_ungiven, gives, goes_on, next_step, repeats, restarts, round, rounds, settled}
use Rattle.world_rules.specs.Refusals.{refusal}
use Rattle.world_rules.specs.Setting.{Setting}
use Rattle.world_rules.specs.World.{begins, counted_job}
use Rattle.sim_world.specs.Worlds.{Stands as WorldStands, World, world_setting}
use Rattle.sim_load.specs.Loading.{Flushed, Goes, Loading, OfEach, Rests, Stands, Tried}
use Rattle.sim_load.specs.Plain.{IsOfLoad}
use Rattle.sim_load.proofs.LoadSteps.{flush-goes, given-next, job-told, not-repeated, not-restarted, of-ring, packets-of, refused-same, repeated, restarted, then-of, tried-by, went, worked-next}
use Rattle.sim_load.proofs.loading.Loading.gives.Goals as goal

pub returns-clause-stands : goal.returns-clause-stands
returns-clause-stands g c =
    let lock = g.S.Seal.lock in
    let draws = g.D.Draw.step in
    let serve = g.V.Service.step in
    let fresh = g.V.Service.fresh_state in
    let keys = g.S.Seal.keys in
    let inside = c.self.inside in
    subst (λ (kept : Loading g.row.S.Denot g.row.V.Denot g.row.D.Denot). OfEach lock draws serve fresh (keys kept.world.host.server.seal) kept
    (λ setting settling. OnOk c.does.result (Stands setting c.does.new.self (gives setting c.args.packet settling)))) c.self.view_is
    (λ sealing settling is stands.
    c.does.ensures.stands sealing (record settling { given = settling.given ++ c.args.packet ∷ [] }) is
    (record { world = stands.world; given = c.in_ok-note.ensures.noted settling.given stands.given; plain = stands.plain }))
