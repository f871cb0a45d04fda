use Rattle.std.proofs.Common.{◌≡◌, ◌∙◌, ◌+◌, ◌-◌, ◌*◌, ◌%◌, ◌<◌, ◌≤◌, ℕ, zero, suc, Bool, true, false, not, None, Some, [], ◌∷◌, ◌++◌, length, add-one, ap, arith, refl, sym, subst}
use Rattle.std.proofs.lemmas.Bool.{ltb-false, ltb-true}
use Rattle.std.specs.Prelude.{IfOk, OnOk, is_some}
use Rattle.sched_text.specs.declared.event.Event.{Event}
use Rattle.sched_text.specs.declared.event.Event.TheVariants as line
use Rattle.world_rules.specs.Load.{Settling, call_of_load, does, first_ungiven, gives, goes_on, next_step, repeats, restarts, round, rounds, settled}
use Rattle.world_rules.specs.Refusals.{refusal}
use Rattle.world_rules.specs.Setting.{Setting}
use Rattle.world_rules.specs.World.{begins, counted_job}
use Rattle.sim_world.specs.Worlds.{Stands as WorldStands, World, world_setting}
use Rattle.sim_load.specs.Loading.{Flushed, Goes, Loading, OfEach, Rests, Stands, Tried}
use Rattle.sim_load.specs.Plain.{IsOfLoad}
use Rattle.sim_load.proofs.LoadSteps.{flush-goes, given-next, job-told, not-repeated, not-restarted, of-ring, packets-of, refused-same, repeated, restarted, then-of, tried-by, went, worked-next}
use Rattle.sim_load.proofs.loading.Loading.settle.Goals as goal

pub loop-left-init : goal.loop-left-init
loop-left-init g c =
    let lock = g.S.Seal.lock in
    let draws = g.D.Draw.step in
    let serve = g.V.Service.step in
    let fresh = g.V.Service.fresh_state in
    let keys = g.S.Seal.keys in
    (λ sealing settling is stands. (settling, stands, refl), refl)

pub returns-else-went-clause-stands : goal.returns-else-went-clause-stands
returns-else-went-clause-stands g c =
    let lock = g.S.Seal.lock in
    let draws = g.D.Draw.step in
    let serve = g.V.Service.step in
    let fresh = g.V.Service.fresh_state in
    let keys = g.S.Seal.keys in
    let old = c.args.self.now in
    let ring = keys old.world.host.server.seal in
    λ sealing settling is stands.
    let setting = world_setting draws serve fresh ring sealing in
    let so = c.loop-left.invariant.0 sealing settling is stands in
    let seal : keys c.loop-left.self.world.host.server.seal ≡ ring = ap keys c.loop-left.invariant.1 in
    let gone = of-ring lock draws serve fresh ring (keys c.loop-left.self.world.host.server.seal) c.loop-left.self
    (λ setting settling. Goes setting settling c.in_ok-went.went c.goes_on.new.self) seal c.in_ok-went.ensures.goes sealing so.0 is so.1 in
    let rests = subst (λ (b : Bool). Goes setting so.0 b c.goes_on.new.self) c.if-went.false gone in
    subst (λ (one : Settling g.row.D.Denot g.row.V.Denot). Stands setting c.goes_on.new.self one) (sym (so.2 ∙ rests.0 c.loop-left.left)) rests.1

pub loop-left-preserved : goal.loop-left-preserved
loop-left-preserved g c =
    let lock = g.S.Seal.lock in
    let draws = g.D.Draw.step in
    let serve = g.V.Service.step in
    let fresh = g.V.Service.fresh_state in
    let keys = g.S.Seal.keys in
    let old = c.args.self.now in
    let ring = keys old.world.host.server.seal in
    let seal : keys c.loop-left.self.world.host.server.seal ≡ ring = ap keys c.loop-left.invariant.1 in (
      λ sealing settling is stands.
          let setting = world_setting draws serve fresh ring sealing in
          let so = c.loop-left.invariant.0 sealing settling is stands in
          let gone = of-ring lock draws serve fresh ring (keys c.loop-left.self.world.host.server.seal) c.loop-left.self
          (λ setting settling. Goes setting settling c.in_ok-went.went c.goes_on.new.self) seal c.in_ok-went.ensures.goes sealing so.0 is so.1 in
          let next = subst (λ (b : Bool). Goes setting so.0 b c.goes_on.new.self) c.if-went.true gone in
          (next.0, next.2, so.2 ∙ went setting so.0 next.0 c.loop-left.left (c.loop-left.left - 1) (omega (arith, c.loop-left-test.true)) next.1),
      c.in_ok-went.ensures.same_seal ∙ c.loop-left.invariant.1,
    )

pub returns-clause-stands : goal.returns-clause-stands
returns-clause-stands g c =
    let lock = g.S.Seal.lock in
    let draws = g.D.Draw.step in
    let serve = g.V.Service.step in
    let fresh = g.V.Service.fresh_state in
    let keys = g.S.Seal.keys in
    let old = c.args.self.now in
    let ring = keys old.world.host.server.seal in
    λ sealing settling is stands.
    let setting = world_setting draws serve fresh ring sealing in
    let so = c.loop-left.invariant.0 sealing settling is stands in
    let none : c.loop-left.left ≡ zero = omega (arith, c.loop-left-test.false) in
    let ended : settled setting settling ≡ so.0 = so.2 ∙ ap (λ (n : ℕ). goes_on setting n so.0 (next_step setting so.0)) none in
    subst (λ (one : Settling g.row.D.Denot g.row.V.Denot). Stands setting c.loop-left.self one) (sym ended) so.1
