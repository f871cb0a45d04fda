use Rattle.std.proofs.Common.{◌≡◌, ◌-◌, ◌<◌, ℕ, Ok, suc, arith, sym, subst}
use Rattle.auth_keys.specs.Rings.{entry_of, key_in}
use Rattle.client_core.specs.Flushed.{binding_under}
use Rattle.sched_text.specs.declared.event.Event.TheVariants as line
use Rattle.server_core.specs.Server.{StandsFor}
use Rattle.sim_server.specs.Settings.{IsOf, Sealing}
use Rattle.sim_world.specs.Keys.{world_keys}
use Rattle.sim_world.specs.Told.{Steps}
use Rattle.sim_world.specs.Worlds.{Stands, World, world_setting}
use Rattle.sim_world.specs.declared.fault.StepFault.TheVariants as told
use Rattle.sim_world.proofs.Steps.{does, redrawn, refuses}
use Rattle.sim_world.proofs.Serve.{job-free, no-job}
use Rattle.sim_world.proofs.world.World.work.Goals.{then-job-eq0-via-then-job-eq0, then-job-eq0-via-else-job-eq0+then-job-ready}
use Rattle.sim_world.proofs.world.World.work.Goals as goal

pub returns-then-job-eq0-clause-steps : goal.returns-then-job-eq0-clause-steps
returns-then-job-eq0-clause-steps g c = λ sealing world is stands.
    let ring = g.S.Seal.keys c.args.self.now.host.server.seal in
    let setting = world_setting g.D.Draw.step g.V.Service.step g.V.Service.fresh_state ring sealing in
    let kept = c.args.self.now in
    let stood = subst (λ kept. Stands setting kept world) (sym c.self.view_is) stands in
    refuses setting world (line.Work c.args.job) (told.NoJob c.args.job) kept
    (no-job setting world c.args.job (elim c.then-job-eq0.branch [
      | then-job-eq0-via-then-job-eq0 w ↦ λ some. let none = w.if-job-eq0.true in absurd (omega (arith, some, none))
      | then-job-eq0-via-else-job-eq0+then-job-ready w ↦ λ some.
          let count = w.ready.ensures.stands world.server (subst (λ server. StandsFor server world.server) (sym w.server.ensures) stood.host.server) in
          subst (λ (n : ℕ). n < c.args.job) count w.if-job-ready.true
    ])) stands.host.drawn
    (record { host = redrawn setting kept.host kept.draw kept.draw world stands.host; seats = stands.seats })

pub returns-clause-steps : goal.returns-clause-steps
returns-clause-steps g c = λ sealing world is stands.
    let ring = g.S.Seal.keys c.args.self.now.host.server.seal in
    let own : Sealing = record sealing { binding_message = λ perm. binding_under (key_in (entry_of perm ring)); keys = world_keys } in
    let setting = world_setting g.D.Draw.step g.V.Service.step g.V.Service.fresh_state ring sealing in
    let inside = c.self.inside in
    let lock = g.S.Seal.lock in
    let stood = subst (λ kept. Stands setting kept world) (sym c.self.view_is) stands in
    let of = subst (λ kept. IsOf lock (g.S.Seal.keys kept.host.server.seal) setting) (sym c.self.view_is) is in
    let job = c.args.job in
    let place = job - 1 in
    let count = c.ready.ensures.stands world.server (subst (λ server. StandsFor server world.server) (sym c.server.ensures) stood.host.server) in
    let after : World g.row.S.Denot g.row.V.Denot g.row.D.Denot = record { host = c.works.new.self; seats = inside.seats; draw = c.works.new.draw } in
    let counted : job ≡ suc place = omega (arith, c.if-job-eq0.false) in
    subst (λ n. Steps setting world (line.Work n) (Ok tt) after) (sym counted)
    (does setting world (line.Work (suc place)) tt after (job-free setting world place (omega (arith, count, c.if-job-eq0.false, c.if-job-ready.false)))
    (record { host = c.in_ok-works.ensures.stands own world of stood.host; seats = stood.seats }))
