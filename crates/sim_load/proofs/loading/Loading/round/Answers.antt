use Rattle.std.proofs.Common.{◌≡◌, ◌∙◌, ◌+◌, ◌-◌, ◌*◌, ◌%◌, ◌<◌, ◌≤◌, ℕ, zero, suc, Bool, true, false, not, None, Some, [], ◌∷◌, ◌++◌, length, add-one, ap, arith, refl, sym, subst}
use Rattle.std.proofs.lemmas.Bool.{ltb-false, ltb-true}
use Rattle.std.specs.Prelude.{IfOk, OnOk, is_some}
use Rattle.sched_text.specs.declared.event.Event.{Event}
use Rattle.sched_text.specs.declared.event.Event.TheVariants as line
use Rattle.world_rules.specs.Load.{Settling, call_of_load, does, first_ungiven, gives, goes_on, next_step, repeats, restarts, round, rounds, settled}
use Rattle.world_rules.specs.Refusals.{refusal}
use Rattle.world_rules.specs.Setting.{Setting}
use Rattle.world_rules.specs.World.{begins, counted_job}
use Rattle.sim_world.specs.Worlds.{Stands as WorldStands, World, world_setting}
use Rattle.sim_load.specs.Loading.{Flushed, Goes, Loading, OfEach, Rests, Stands, Tried}
use Rattle.sim_load.specs.Plain.{IsOfLoad}
use Rattle.sim_load.proofs.LoadSteps.{flush-goes, given-next, job-told, not-repeated, not-restarted, of-ring, packets-of, refused-same, repeated, restarted, then-of, tried-by, went, worked-next}
use Rattle.sim_load.proofs.loading.Loading.round.Goals as goal

pub returns-clause-stands : goal.returns-clause-stands
returns-clause-stands g c =
    let lock = g.S.Seal.lock in
    let draws = g.D.Draw.step in
    let serve = g.V.Service.step in
    let fresh = g.V.Service.fresh_state in
    let keys = g.S.Seal.keys in
    let old = c.args.self.now in
    let ring = keys old.world.host.server.seal in
    λ sealing settling is stands.
    let setting = world_setting draws serve fresh ring sealing in
    let number = c.args.number in
    let first = keys c.calls.new.self.world.host.server.seal in
    let second = keys c.restarts.new.self.world.host.server.seal in
    let third = keys c.settle.new.self.world.host.server.seal in
    let one : first ≡ ring = ap keys c.in_ok-calls.ensures.same_seal in
    let two : second ≡ ring = ap keys c.in_ok-restarts.ensures.same_seal ∙ one in
    let three : third ≡ ring = ap keys c.in_ok-settle.ensures.same_seal ∙ two in
    let called = does setting call_of_load settling in
    let again = restarts setting number called in
    let called_so : Stands setting c.calls.new.self called = c.in_ok-calls.ensures.stands sealing settling is stands in
    let again_so : Stands setting c.restarts.new.self again = of-ring lock draws serve fresh ring first c.calls.new.self
    (λ setting settling. Stands setting c.restarts.new.self (restarts setting number settling)) one c.in_ok-restarts.ensures.stands sealing called is called_so in
    let settled_so : Stands setting c.settle.new.self (settled setting again) = of-ring lock draws serve fresh ring second c.restarts.new.self
    (λ setting settling. Stands setting c.settle.new.self (settled setting settling)) two c.in_ok-settle.ensures.stands sealing again is again_so in
    of-ring lock draws serve fresh ring third c.settle.new.self (λ setting settling. OnOk c.repeats.result (Stands setting c.repeats.new.self (repeats setting number settling)))
    three c.repeats.ensures.stands sealing (settled setting again) is settled_so
