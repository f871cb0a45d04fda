use Rattle.std.proofs.Common.{refl, sym, subst}
use Rattle.auth_keys.specs.Rings.{entry_of, key_in}
use Rattle.client_core.specs.Flushed.{binding_under}
use Rattle.sched_text.specs.declared.event.Event.TheVariants as line
use Rattle.sim_server.specs.Settings.{IsOf, Sealing}
use Rattle.sim_world.specs.Keys.{world_keys}
use Rattle.sim_world.specs.Worlds.{Stands, world_setting}
use Rattle.sim_world.proofs.Steps.{does}
use Rattle.sim_world.proofs.world.World.restart.Goals as goal

pub returns-clause-steps : goal.returns-clause-steps
returns-clause-steps g c = λ sealing world is stands.
    let ring = g.S.Seal.keys c.args.self.now.host.server.seal in
    let own : Sealing = record sealing { binding_message = λ perm. binding_under (key_in (entry_of perm ring)); keys = world_keys } in
    let setting = world_setting g.D.Draw.step g.V.Service.step g.V.Service.fresh_state ring sealing in
    let inside = c.self.inside in
    let lock = g.S.Seal.lock in
    let stood = subst (λ kept. Stands setting kept world) (sym c.self.view_is) stands in
    let of = subst (λ kept. IsOf lock (g.S.Seal.keys kept.host.server.seal) setting) (sym c.self.view_is) is in
    does setting world line.Restart tt (record { host = c.restarts.new.self; seats = inside.seats; draw = inside.draw }) refl
    (record { host = c.in_ok-restarts.ensures.stands own inside.draw world of stood.host; seats = stood.seats })
