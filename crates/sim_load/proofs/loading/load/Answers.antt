use Rattle.std.proofs.Common.{◌≡◌, ◌∙◌, ◌+◌, ◌-◌, ◌*◌, ◌%◌, ◌<◌, ◌≤◌, ℕ, zero, suc, Bool, true, false, not, None, Some, [], ◌∷◌, ◌++◌, length, add-one, ap, arith, refl, sym, subst}
use Rattle.std.proofs.lemmas.Bool.{ltb-false, ltb-true}
use Rattle.std.specs.Prelude.{IfOk, OnOk, is_some}
use Rattle.sched_text.specs.declared.event.Event.{Event}
use Rattle.sched_text.specs.declared.event.Event.TheVariants as line
use Rattle.world_rules.specs.Load.{Settling, call_of_load, does, first_ungiven, gives, goes_on, next_step, repeats, restarts, round, rounds, settled}
use Rattle.world_rules.specs.Refusals.{refusal}
use Rattle.world_rules.specs.Setting.{Setting}
use Rattle.world_rules.specs.World.{begins, counted_job}
use Rattle.sim_world.specs.Worlds.{Stands as WorldStands, World, world_setting}
use Rattle.sim_load.specs.Loading.{Flushed, Goes, Loading, OfEach, Rests, Stands, Tried}
use Rattle.sim_load.specs.Plain.{IsOfLoad}
use Rattle.sim_load.proofs.LoadSteps.{flush-goes, given-next, job-told, not-repeated, not-restarted, of-ring, packets-of, refused-same, repeated, restarted, then-of, tried-by, went, worked-next}
use Rattle.sim_load.proofs.loading.load.Goals as goal

pub loop-before-init : goal.loop-before-init
loop-before-init g c =
    let lock = g.S.Seal.lock in
    let draws = g.D.Draw.step in
    let serve = g.V.Service.step in
    let fresh = g.V.Service.fresh_state in
    let keys = g.S.Seal.keys in
    let world = c.args.world in
    let ring = keys world.host.server.seal in
    let mine = keys c.new-loading.result.world.host.server.seal in
    let same : mine ≡ ring = ap (λ (kept : World g.row.S.Denot g.row.V.Denot g.row.D.Denot). keys kept.host.server.seal) c.new-loading.ensures.world in (
      λ sealing draw is stands.
          let setting = world_setting draws serve fresh ring sealing in
          let start : Settling g.row.D.Denot g.row.V.Denot = record { world = begins setting draw; given = [] } in
          let stood : Stands setting c.new-loading.result start = record {
            world = subst (λ (kept : World g.row.S.Denot g.row.V.Denot g.row.D.Denot). WorldStands setting kept (begins setting draw)) (sym c.new-loading.ensures.world) stands;
            given = c.new-loading.ensures.given;
            plain = tt;
          } in
          of-ring lock draws serve fresh ring mine c.new-loading.result (λ setting settling. Stands setting c.does.new.self (does setting line.Client settling))
          same c.in_ok-does.ensures.stands sealing start is stood,
      c.in_ok-does.ensures.same_seal ∙ ap (λ (kept : World g.row.S.Denot g.row.V.Denot g.row.D.Denot). kept.host.server.seal) c.new-loading.ensures.world,
    )

pub loop-before-preserved : goal.loop-before-preserved
loop-before-preserved g c =
    let lock = g.S.Seal.lock in
    let draws = g.D.Draw.step in
    let serve = g.V.Service.step in
    let fresh = g.V.Service.fresh_state in
    let keys = g.S.Seal.keys in
    let world = c.args.world in
    let ring = keys world.host.server.seal in
    let before = c.loop-before.before in
    let same : keys c.loop-before.loading.world.host.server.seal ≡ ring = ap keys c.loop-before.invariant.1 in (
      λ sealing draw is stands.
          let setting = world_setting draws serve fresh ring sealing in
          let start = does setting line.Client (record { world = begins setting draw; given = [] }) in
          let stood : Stands setting c.loop-before.loading (rounds setting before start) = c.loop-before.invariant.0 sealing draw is stands in
          let done : Stands setting c.round.new.self (round setting (before + 1) (rounds setting before start)) =
          of-ring lock draws serve fresh ring (keys c.loop-before.loading.world.host.server.seal) c.loop-before.loading
          (λ setting settling. Stands setting c.round.new.self (round setting (before + 1) settling)) same c.in_ok-round.ensures.stands sealing (rounds setting before start) is stood in
          subst (λ (n : ℕ). Stands setting c.round.new.self (rounds setting n start)) (sym (add-one before))
          (subst (λ (n : ℕ). Stands setting c.round.new.self (round setting n (rounds setting before start))) (add-one before) done),
      c.in_ok-round.ensures.same_seal ∙ c.loop-before.invariant.1,
    )

pub returns-clause-loaded : goal.returns-clause-loaded
returns-clause-loaded g c =
    let lock = g.S.Seal.lock in
    let draws = g.D.Draw.step in
    let serve = g.V.Service.step in
    let fresh = g.V.Service.fresh_state in
    let keys = g.S.Seal.keys in
    λ sealing draw is stands.
    let setting = world_setting draws serve fresh (keys c.args.world.host.server.seal) sealing in
    let start = does setting line.Client (record { world = begins setting draw; given = [] }) in
    let all : c.loop-before.before ≡ c.args.calls = omega arith in
    let stood : Stands setting c.loop-before.loading (rounds setting c.args.calls start) =
    subst (λ (n : ℕ). Stands setting c.loop-before.loading (rounds setting n start)) all (c.loop-before.invariant.0 sealing draw is stands) in
    subst (λ (kept : World g.row.S.Denot g.row.V.Denot g.row.D.Denot). WorldStands setting kept (rounds setting c.args.calls start).world) (sym c.into_world.ensures) stood.world
