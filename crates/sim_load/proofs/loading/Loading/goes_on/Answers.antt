use Rattle.std.proofs.Common.{◌≡◌, ◌∙◌, ◌+◌, ◌-◌, ◌*◌, ◌%◌, ◌<◌, ◌≤◌, ℕ, zero, suc, Bool, true, false, not, None, Some, [], ◌∷◌, ◌++◌, length, add-one, ap, arith, refl, sym, subst}
use Rattle.std.proofs.lemmas.Bool.{ltb-false, ltb-true}
use Rattle.std.specs.Prelude.{IfOk, OnOk, is_some}
use Rattle.sched_text.specs.declared.event.Event.{Event}
use Rattle.sched_text.specs.declared.event.Event.TheVariants as line
use Rattle.world_rules.specs.Load.{Settling, call_of_load, does, first_ungiven, gives, goes_on, next_step, repeats, restarts, round, rounds, settled}
use Rattle.world_rules.specs.Refusals.{refusal}
use Rattle.world_rules.specs.Setting.{Setting}
use Rattle.world_rules.specs.World.{begins, counted_job}
use Rattle.sim_world.specs.Worlds.{Stands as WorldStands, World, world_setting}
use Rattle.sim_load.specs.Loading.{Flushed, Goes, Loading, OfEach, Rests, Stands, Tried}
use Rattle.sim_load.specs.Plain.{IsOfLoad}
use Rattle.sim_load.proofs.LoadSteps.{flush-goes, given-next, job-told, not-repeated, not-restarted, of-ring, packets-of, refused-same, repeated, restarted, then-of, tried-by, went, worked-next}
use Rattle.sim_load.proofs.loading.Loading.goes_on.Goals as goal

pub returns-in-Some-clause-goes : goal.returns-in-Some-clause-goes
returns-in-Some-clause-goes g c =
    let lock = g.S.Seal.lock in
    let draws = g.D.Draw.step in
    let serve = g.V.Service.step in
    let fresh = g.V.Service.fresh_state in
    let keys = g.S.Seal.keys in
    let old = c.args.self.now in
    let ring = keys old.world.host.server.seal in
    λ sealing settling is stands.
    let setting = world_setting draws serve fresh ring sealing in
    let Told : Setting g.row.D.Denot g.row.V.Denot → Settling g.row.D.Denot g.row.V.Denot → Type 0 = λ setting settling. Stands setting c.gives.new.self (gives setting c.in-Some.packet settling) in
    let gave = subst (λ (kept : Loading g.row.S.Denot g.row.V.Denot g.row.D.Denot). OfEach lock draws serve fresh (keys kept.world.host.server.seal) kept Told) c.first_ungiven.ensures.same c.in_ok-gives.ensures.stands in (
      gives setting c.in-Some.packet settling,
      given-next setting settling c.in-Some.packet (sym (c.first_ungiven.ensures.first sealing settling is stands) ∙ c.in-Some.is),
      gave sealing settling is stands,
    )

pub returns-then-worked-clause-goes : goal.returns-then-worked-clause-goes
returns-then-worked-clause-goes g c =
    let lock = g.S.Seal.lock in
    let draws = g.D.Draw.step in
    let serve = g.V.Service.step in
    let fresh = g.V.Service.fresh_state in
    let keys = g.S.Seal.keys in
    let old = c.args.self.now in
    let ring = keys old.world.host.server.seal in
    λ sealing settling is stands.
    let setting = world_setting draws serve fresh ring sealing in
    let Told : Setting g.row.D.Denot g.row.V.Denot → Settling g.row.D.Denot g.row.V.Denot → Type 0 = λ setting settling. Tried setting settling (line.Work 1) c.in_ok-worked.worked c.tries.new.self in
    let tried = subst (λ (kept : Loading g.row.S.Denot g.row.V.Denot g.row.D.Denot). OfEach lock draws serve fresh (keys kept.world.host.server.seal) kept Told) c.first_ungiven.ensures.same c.in_ok-worked.ensures.tried sealing settling is stands in
    let none : first_ungiven 1 (length settling.world.bag) settling.given ≡ None = sym (c.first_ungiven.ensures.first sealing settling is stands) ∙ c.in_default.is in (
      does setting (line.Work 1) settling,
      worked-next setting settling none (job-told setting settling.world c.in_ok-worked.worked tried.refused ∙ c.if-worked.true),
      tried.stands,
    )

pub returns-clause-goes : goal.returns-clause-goes
returns-clause-goes g c =
    let lock = g.S.Seal.lock in
    let draws = g.D.Draw.step in
    let serve = g.V.Service.step in
    let fresh = g.V.Service.fresh_state in
    let keys = g.S.Seal.keys in
    let old = c.args.self.now in
    let ring = keys old.world.host.server.seal in
    λ sealing settling is stands.
    let setting = world_setting draws serve fresh ring sealing in
    let Told : Setting g.row.D.Denot g.row.V.Denot → Settling g.row.D.Denot g.row.V.Denot → Type 0 = λ setting settling. Tried setting settling (line.Work 1) c.in_ok-worked.worked c.tries.new.self in
    let tried = subst (λ (kept : Loading g.row.S.Denot g.row.V.Denot g.row.D.Denot). OfEach lock draws serve fresh (keys kept.world.host.server.seal) kept Told) c.first_ungiven.ensures.same c.in_ok-worked.ensures.tried sealing settling is stands in
    let none : first_ungiven 1 (length settling.world.bag) settling.given ≡ None = sym (c.first_ungiven.ensures.first sealing settling is stands) ∙ c.in_default.is in
    let same = refused-same setting settling (line.Work 1) (tried.refused ∙ ap not c.if-worked.false) in
    let stood : Stands setting c.tries.new.self settling =
    subst (λ (one : Settling g.row.D.Denot g.row.V.Denot). Stands setting c.tries.new.self one) same tried.stands in
    let seal : keys c.tries.new.self.world.host.server.seal ≡ ring = ap keys (c.in_ok-worked.ensures.same_seal ∙ ap (λ (kept : Loading g.row.S.Denot g.row.V.Denot g.row.D.Denot). kept.world.host.server.seal) c.first_ungiven.ensures.same) in
    flush-goes setting settling c.flushes.new.self c.flushes.result none (job-told setting settling.world c.in_ok-worked.worked tried.refused ∙ c.if-worked.false) stands.plain
    (of-ring lock draws serve fresh ring (keys c.tries.new.self.world.host.server.seal) c.tries.new.self
    (λ setting settling. IfOk c.flushes.result (λ made. Flushed setting settling made c.flushes.new.self)) seal c.flushes.ensures.flushed sealing settling is stood)
