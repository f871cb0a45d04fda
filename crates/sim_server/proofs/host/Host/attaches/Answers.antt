use Rattle.std.proofs.Common.{◌∙◌, max, refl, ap, sym, subst}
use Rattle.msg_ids.specs.Moments.{moment_of}
use Rattle.server_core.specs.declared.effects.Effects.{Effects}
use Rattle.server_rules.specs.Answer.{after_attach}
use Rattle.server_rules.specs.Events.{Attach}
use Rattle.server_rules.specs.Server.{Name}
use Rattle.server_session.specs.Says.{setting_of}
use Rattle.world_rules.specs.Ends.{course_in}
use Rattle.sim_server.specs.Hosts.{Stands}
use Rattle.sim_server.specs.Settings.{IsOf, rings_of, setting_in}
use Rattle.sim_server.proofs.Serving.{at-clock, event-stands, gave}
use Rattle.sim_server.proofs.host.Host.attaches.Goals as goal

pub returns-clause-stands : goal.returns-clause-stands
returns-clause-stands g c = λ sealing world is stands.
    let setting = setting_in g.D.Draw.step g.V.Service.step g.V.Service.fresh_state sealing in
    let inside = c.self.inside in
    let lock = g.S.Seal.lock in
    let ring = g.S.Seal.keys inside.server.seal in
    let both = subst (λ host. IsOf lock (g.S.Seal.keys host.server.seal) setting × Stands setting host c.args.draw.now world) (sym c.self.view_is) (is, stands) in
    let stood = both.1 in
    let now = c.new-now.ensures ∙ ap moment_of stood.clock in
    let effects : Effects = c.in_ok-out.field-0 in
    let name : Name = record { key = c.args.key; session = c.args.session } in
    let gives = at-clock lock ring c.attach.new.self c.attach.new.draw world.draw c.args.draw.now effects
    (λ moment draw. after_attach (setting_of moment setting.step (rings_of setting)) name world.server draw)
    inside.server.moment world.server.now c.new-now.result world.clock stood.server.stands.moment now stood.drawn
    (c.in_ok-out.ensures.given (rings_of setting) world.server stood.server) in
    event-stands lock ring setting inside.server inside.moment inside.service inside.clock inside.past c.args.draw.now world (Attach world.clock name)
    c.attach.new.self c.later-self-inside.result inside.service c.attach.new.draw effects c.reserve.new.self c.takes.new.self
    both.0.seal stood
    (gave lock ring c.attach.new.self c.attach.new.draw effects (after_attach (setting_of (max world.server.now (moment_of world.clock)) setting.step (rings_of setting)) name world.server world.draw) (course_in world) world.service refl refl gives)
    stood.service
    (c.later-self-inside.ensures ∙ ap (λ n. max n c.new-now.result) stood.moment ∙ ap (λ n. max world.server.now n) now)
    c.in_ok-reserve.ensures.same c.takes.ensures.bag c.takes.ensures.entries c.takes.ensures.start
