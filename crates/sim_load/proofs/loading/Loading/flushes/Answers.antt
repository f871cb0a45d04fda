use Rattle.std.proofs.Common.{◌≡◌, ◌∙◌, ◌+◌, ◌-◌, ◌*◌, ◌%◌, ◌<◌, ◌≤◌, ℕ, zero, suc, Bool, true, false, not, None, Some, [], ◌∷◌, ◌++◌, length, add-one, ap, arith, refl, sym, subst}
use Rattle.std.proofs.lemmas.Bool.{ltb-false, ltb-true}
use Rattle.std.specs.Prelude.{IfOk, OnOk, is_some}
use Rattle.sched_text.specs.declared.event.Event.{Event}
use Rattle.sched_text.specs.declared.event.Event.TheVariants as line
use Rattle.world_rules.specs.Load.{Settling, call_of_load, does, first_ungiven, gives, goes_on, next_step, repeats, restarts, round, rounds, settled}
use Rattle.world_rules.specs.Refusals.{refusal}
use Rattle.world_rules.specs.Setting.{Setting}
use Rattle.world_rules.specs.World.{begins, counted_job}
use Rattle.sim_world.specs.Worlds.{Stands as WorldStands, World, world_setting}
use Rattle.sim_load.specs.Loading.{Flushed, Goes, Loading, OfEach, Rests, Stands, Tried}
use Rattle.sim_load.specs.Plain.{IsOfLoad}
use Rattle.sim_load.proofs.LoadSteps.{flush-goes, given-next, job-told, not-repeated, not-restarted, of-ring, packets-of, refused-same, repeated, restarted, then-of, tried-by, went, worked-next}
use Rattle.sim_load.proofs.loading.Loading.flushes.Goals as goal

pub returns-clause-flushed : goal.returns-clause-flushed
returns-clause-flushed g c =
    let lock = g.S.Seal.lock in
    let draws = g.D.Draw.step in
    let serve = g.V.Service.step in
    let fresh = g.V.Service.fresh_state in
    let keys = g.S.Seal.keys in
    let old = c.args.self.now in
    let ring = keys old.world.host.server.seal in
    λ sealing settling is stands.
    let setting = world_setting draws serve fresh ring sealing in
    let first : c.packets-count.result ≡ length settling.world.bag = c.packets-count.ensures sealing settling is stands in
    let stood : Stands setting c.does.new.self (does setting (line.Flush 1) settling) = c.in_ok-does.ensures.stands sealing settling is stands in
    let second : c.packets.result ≡ length (does setting (line.Flush 1) settling).world.bag =
    of-ring lock draws serve fresh ring (keys c.does.new.self.world.host.server.seal) c.does.new.self (λ setting settling. c.packets.result ≡ length settling.world.bag)
    (ap keys c.in_ok-does.ensures.same_seal) c.packets.ensures sealing (does setting (line.Flush 1) settling) is stood in
    record {
      grew = λ yes. let less : c.packets-count.result < c.packets.result = ltb-true c.packets-count.result c.packets.result yes in omega (arith, less, first, second);
      stayed = λ no. let most : c.packets.result ≤ c.packets-count.result = ltb-false c.packets-count.result c.packets.result no in omega (arith, most, first, second);
      stands = stood;
    }
