use Rattle.std.proofs.Common.{sym, subst}
use Rattle.auth_keys.specs.Rings.{entry_of, key_in}
use Rattle.client_core.specs.Flushed.{binding_under}
use Rattle.sched_text.specs.declared.event.Event.TheVariants as line
use Rattle.server_rules.specs.Events.{Attach}
use Rattle.world_rules.specs.World.{counted}
use Rattle.sim_server.specs.Settings.{IsOf, Sealing}
use Rattle.sim_world.specs.Keys.{world_keys}
use Rattle.sim_world.specs.Worlds.{Stands, World, world_setting}
use Rattle.sim_world.proofs.ServeNames.{at-present, is-present, present-free}
use Rattle.sim_world.proofs.Steps.{does}
use Rattle.sim_world.proofs.world.World.attach_server.Goals as goal

pub returns-clause-steps : goal.returns-clause-steps
returns-clause-steps g c = λ sealing world is stands.
    let ring = g.S.Seal.keys c.args.self.now.host.server.seal in
    let own : Sealing = record sealing { binding_message = λ perm. binding_under (key_in (entry_of perm ring)); keys = world_keys } in
    let setting = world_setting g.D.Draw.step g.V.Service.step g.V.Service.fresh_state ring sealing in
    let inside = c.self.inside in
    let lock = g.S.Seal.lock in
    let stood = subst (λ kept. Stands setting kept world) (sym c.self.view_is) stands in
    let of = subst (λ kept. IsOf lock (g.S.Seal.keys kept.host.server.seal) setting) (sym c.self.view_is) is in
    let client = c.args.client in
    let key = c.key-key.result in
    let session = c.session-session.result in
    let found = counted client world.seats in
    let present = is-present c.in-Some.holder.now found key session (c.in-Some.ensures.stands world.seats stood.seats) c.key-key.ensures c.session-session.ensures in
    let after : World g.row.S.Denot g.row.V.Denot g.row.D.Denot = record { host = c.attaches.new.self; seats = inside.seats; draw = c.attaches.new.draw } in
    does setting world (line.AttachServer client) tt after (present-free found key session present)
    (at-present setting (Attach world.clock) after world client key session present
    (record { host = c.in_ok-attaches.ensures.stands own world of stood.host; seats = stood.seats }))
