use Rattle.std.proofs.Common.{◌≡◌, ◌∙◌, ◌+◌, ◌-◌, ◌*◌, ◌%◌, ◌<◌, ◌≤◌, ℕ, zero, suc, Bool, true, false, not, None, Some, [], ◌∷◌, ◌++◌, length, add-one, ap, arith, refl, sym, subst}
use Rattle.std.proofs.lemmas.Bool.{ltb-false, ltb-true}
use Rattle.std.specs.Prelude.{IfOk, OnOk, is_some}
use Rattle.sched_text.specs.declared.event.Event.{Event}
use Rattle.sched_text.specs.declared.event.Event.TheVariants as line
use Rattle.world_rules.specs.Load.{Settling, call_of_load, does, first_ungiven, gives, goes_on, next_step, repeats, restarts, round, rounds, settled}
use Rattle.world_rules.specs.Refusals.{refusal}
use Rattle.world_rules.specs.Setting.{Setting}
use Rattle.world_rules.specs.World.{begins, counted_job}
use Rattle.sim_world.specs.Worlds.{Stands as WorldStands, World, world_setting}
use Rattle.sim_load.specs.Loading.{Flushed, Goes, Loading, OfEach, Rests, Stands, Tried}
use Rattle.sim_load.specs.Plain.{IsOfLoad}
use Rattle.sim_load.proofs.LoadSteps.{flush-goes, given-next, job-told, not-repeated, not-restarted, of-ring, packets-of, refused-same, repeated, restarted, then-of, tried-by, went, worked-next}
use Rattle.sim_load.proofs.loading.Loading.restarts.Goals as goal

pub returns-in_ok-starts_again-clause-stands : goal.returns-in_ok-starts_again-clause-stands
returns-in_ok-starts_again-clause-stands g c =
    let lock = g.S.Seal.lock in
    let draws = g.D.Draw.step in
    let serve = g.V.Service.step in
    let fresh = g.V.Service.fresh_state in
    let keys = g.S.Seal.keys in
    let old = c.args.self.now in
    let ring = keys old.world.host.server.seal in
    λ sealing settling is stands.
    let setting = world_setting draws serve fresh ring sealing in
    subst (λ (one : Settling g.row.D.Denot g.row.V.Denot). Stands setting c.starts_again.new.self one) (sym (restarted setting c.args.number settling c.if-number-eq0.true))
    (c.in_ok-starts_again.ensures.stands sealing settling is stands)

pub returns-else-number-eq0-clause-stands : goal.returns-else-number-eq0-clause-stands
returns-else-number-eq0-clause-stands g c =
    let lock = g.S.Seal.lock in
    let draws = g.D.Draw.step in
    let serve = g.V.Service.step in
    let fresh = g.V.Service.fresh_state in
    let keys = g.S.Seal.keys in
    let old = c.args.self.now in
    let ring = keys old.world.host.server.seal in
    λ sealing settling is stands.
    let setting = world_setting draws serve fresh ring sealing in
    subst (λ (one : Settling g.row.D.Denot g.row.V.Denot). Stands setting old one) (sym (not-restarted setting c.args.number settling c.if-number-eq0.false)) stands
