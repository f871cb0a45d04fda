use Rattle.std.proofs.Common.{◌∙◌, sym, subst}
use Rattle.auth_keys.specs.Rings.{entry_of, key_in}
use Rattle.client_core.specs.Flushed.{binding_under}
use Rattle.sched_text.specs.declared.event.Event.TheVariants as line
use Rattle.sim_server.specs.Settings.{IsOf, Sealing}
use Rattle.sim_world.specs.Keys.{world_keys}
use Rattle.sim_world.specs.Worlds.{Stands, World, world_setting}
use Rattle.sim_world.specs.declared.fault.StepFault.TheVariants as told
use Rattle.sim_world.proofs.ServeNames.{foreign-free, foreign-opens}
use Rattle.sim_world.proofs.Steps.{does, redrawn, refuses}
use Rattle.sim_world.proofs.world.World.foreign_server.Goals as goal

pub returns-then-branch-clause-steps : goal.returns-then-branch-clause-steps
returns-then-branch-clause-steps g c = λ sealing world is stands.
    let ring = g.S.Seal.keys c.args.self.now.host.server.seal in
    let own : Sealing = record sealing { binding_message = λ perm. binding_under (key_in (entry_of perm ring)); keys = world_keys } in
    let setting = world_setting g.D.Draw.step g.V.Service.step g.V.Service.fresh_state ring sealing in
    let kept = c.args.self.now in
    let lock = g.S.Seal.lock in
    let stood = subst (λ kept. Stands setting kept world) (sym c.self.view_is) stands in
    let of = subst (λ kept. IsOf lock (g.S.Seal.keys kept.host.server.seal) setting) (sym c.self.view_is) is in
    let opens = c.in_ok-opens.ensures own c.self.inside.draw world of stood.host in
    refuses setting world (line.ForeignServer c.args.bytes.now) told.ForeignOpens kept
    (foreign-opens setting world c.args.bytes.now (sym c.if-branch.true ∙ opens)) stands.host.drawn
    (record { host = redrawn setting kept.host kept.draw kept.draw world stands.host; seats = stands.seats })

pub returns-clause-steps : goal.returns-clause-steps
returns-clause-steps g c = λ sealing world is stands.
    let ring = g.S.Seal.keys c.args.self.now.host.server.seal in
    let own : Sealing = record sealing { binding_message = λ perm. binding_under (key_in (entry_of perm ring)); keys = world_keys } in
    let setting = world_setting g.D.Draw.step g.V.Service.step g.V.Service.fresh_state ring sealing in
    let inside = c.self.inside in
    let lock = g.S.Seal.lock in
    let stood = subst (λ kept. Stands setting kept world) (sym c.self.view_is) stands in
    let of = subst (λ kept. IsOf lock (g.S.Seal.keys kept.host.server.seal) setting) (sym c.self.view_is) is in
    let opens = c.in_ok-opens.ensures own inside.draw world of stood.host in
    let after : World g.row.S.Denot g.row.V.Denot g.row.D.Denot = record { host = c.takes.new.self; seats = inside.seats; draw = c.takes.new.draw } in
    does setting world (line.ForeignServer c.args.bytes.now) tt after
    (foreign-free setting world c.args.bytes.now (sym c.if-branch.false ∙ opens))
    (record { host = c.in_ok-takes.ensures.stands own world of stood.host; seats = stood.seats })
