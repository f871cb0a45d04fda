use Rattle.std.proofs.Common.{◌∙◌, max, ap, sym, subst}
use Rattle.std.specs.Prelude.{option_map}
use Rattle.envelope.specs.declared.parts.Dir.TheVariants.{Up}
use Rattle.msg_ids.specs.Moments.{moment_of}
use Rattle.server_rules.specs.Events.{Packet as Comes}
use Rattle.world_rules.specs.Ends.{course_in}
use Rattle.world_rules.specs.Setting.{as_heard, at_server}
use Rattle.sim_server.specs.Hosts.{Did, Stands, heard_by}
use Rattle.sim_server.specs.Settings.{IsOf, setting_in}
use Rattle.sim_server.proofs.Moments.{heard-now, heard-service}
use Rattle.sim_server.proofs.Serving.{event-stands}
use Rattle.sim_server.proofs.host.Host.takes.Goals as goal

pub returns-clause-stands : goal.returns-clause-stands
returns-clause-stands g c = λ sealing world is stands.
    let setting = setting_in g.D.Draw.step g.V.Service.step g.V.Service.fresh_state sealing in
    let inside = c.self.inside in
    let lock = g.S.Seal.lock in
    let ring = g.S.Seal.keys inside.server.seal in
    let both = subst (λ host. IsOf lock (g.S.Seal.keys host.server.seal) setting × Stands setting host c.args.draw.now world) (sym c.self.view_is) (is, stands) in
    let stood = both.1 in
    let bytes = c.args.bytes.now in
    let now = c.new-now.ensures ∙ ap moment_of stood.clock in
    let opened = option_map as_heard (setting.opens (max world.server.now (moment_of world.clock)) Up bytes) in
    let given = c.in_ok-out.ensures.given sealing world.server world.service world.clock both.0 now stood.server in
    let did = subst (λ draw. Did lock ring c.hears.new.server c.hears.new.draw c.in_ok-out.field-0 (heard_by setting world.server world.service draw world.clock bytes)) stood.drawn given in
    event-stands lock ring setting inside.server inside.moment inside.service inside.clock inside.past c.args.draw.now world (Comes world.clock opened)
    c.hears.new.server c.later-self-inside.result inside.service c.hears.new.draw c.in_ok-out.field-0 c.reserve.new.self c.takes.new.self
    both.0.seal stood did
    (stood.service ∙ heard-service (at_server setting) setting.serve setting.fresh (course_in world) world.clock opened)
    (c.later-self-inside.ensures ∙ ap (λ n. max n c.new-now.result) stood.moment ∙ ap (λ n. max world.server.now n) now
    ∙ heard-now (at_server setting) setting.serve setting.fresh (course_in world) world.clock opened)
    c.in_ok-reserve.ensures.same c.takes.ensures.bag c.takes.ensures.entries c.takes.ensures.start
