use Rattle.std.proofs.Common.{◌∙◌, max, refl, ap, sym, subst}
use Rattle.msg_ids.specs.Moments.{moment_of}
use Rattle.server_core.specs.declared.effects.Effects.{Effects}
use Rattle.server_rules.specs.Answer.{after_work}
use Rattle.server_rules.specs.Events.{Work, setting_at}
use Rattle.waits.specs.Jobs.{ready_job}
use Rattle.world_rules.specs.Setting.{at_server}
use Rattle.sim_server.proofs.Moments.{run-at, run-now, served-at}
use Rattle.server_session.specs.Says.{setting_of}
use Rattle.world_rules.specs.Ends.{course_in}
use Rattle.sim_server.specs.Hosts.{Stands}
use Rattle.sim_server.specs.Settings.{IsOf, rings_of, setting_in}
use Rattle.sim_server.proofs.Serving.{event-stands, gave}
use Rattle.sim_server.proofs.host.Host.works.Goals as goal

pub returns-clause-stands : goal.returns-clause-stands
returns-clause-stands g c = λ sealing world is stands.
    let setting = setting_in g.D.Draw.step g.V.Service.step g.V.Service.fresh_state sealing in
    let inside = c.self.inside in
    let lock = g.S.Seal.lock in
    let ring = g.S.Seal.keys inside.server.seal in
    let both = subst (λ host. IsOf lock (g.S.Seal.keys host.server.seal) setting × Stands setting host c.args.draw.now world) (sym c.self.view_is) (is, stands) in
    let stood = both.1 in
    let now = c.new-now.ensures ∙ ap moment_of stood.clock in
    let effects : Effects = c.in_ok-out.field-0 in
    let place = c.args.place in
    let gives = run-at lock ring c.work.new.self c.work.new.draw world.draw c.args.draw.now world.service inside.service effects
    (λ moment draw service. after_work (setting_of moment setting.step (rings_of setting)) place setting.serve service world.server draw)
    inside.server.moment world.server.now c.new-now.result world.clock stood.server.stands.moment now stood.drawn stood.service
    (c.in_ok-out.ensures.given (rings_of setting) world.server stood.server) in
    let served = served-at c.work.new.service world.service inside.service world.draw c.args.draw.now
    (λ moment draw service. after_work (setting_of moment setting.step (rings_of setting)) place setting.serve service world.server draw)
    inside.server.moment world.server.now c.new-now.result world.clock stood.server.stands.moment now stood.drawn stood.service
    (c.in_ok-out.ensures.served (rings_of setting) world.server stood.server) in
    let moved = run-now (setting_at (at_server setting) world.clock world.server) place (ready_job place world.server.jobs) setting.serve world.service world.server world.draw in
    event-stands lock ring setting inside.server inside.moment inside.service inside.clock inside.past c.args.draw.now world (Work world.clock place)
    c.work.new.self c.later-self-inside.result c.work.new.service c.work.new.draw effects c.reserve.new.self c.takes.new.self
    both.0.seal stood
    (gave lock ring c.work.new.self c.work.new.draw effects (after_work (setting_of (max world.server.now (moment_of world.clock)) setting.step (rings_of setting)) place setting.serve world.service world.server world.draw).0 (course_in world)
    (after_work (setting_of (max world.server.now (moment_of world.clock)) setting.step (rings_of setting)) place setting.serve world.service world.server world.draw).1 refl refl gives)
    served
    (c.later-self-inside.ensures ∙ ap (λ n. max n c.new-now.result) stood.moment ∙ ap (λ n. max world.server.now n) now ∙ moved)
    c.in_ok-reserve.ensures.same c.takes.ensures.bag c.takes.ensures.entries c.takes.ensures.start
