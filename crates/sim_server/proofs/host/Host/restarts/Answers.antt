use Rattle.std.proofs.Common.{refl, sym, subst}
use Rattle.server_rules.specs.Events.{Restart}
use Rattle.world_rules.specs.Ends.{serves}
use Rattle.sim_server.specs.Hosts.{Stands}
use Rattle.sim_server.specs.Settings.{IsOf, setting_in}
use Rattle.sim_server.proofs.Moments.{starts-again}
use Rattle.sim_server.proofs.Serving.{quiet-stands}
use Rattle.sim_server.proofs.host.Host.restarts.Goals as goal

pub returns-clause-stands : goal.returns-clause-stands
returns-clause-stands g c = λ sealing draw world is stands.
    let setting = setting_in g.D.Draw.step g.V.Service.step g.V.Service.fresh_state sealing in
    let inside = c.self.inside in
    let lock = g.S.Seal.lock in
    let ring = g.S.Seal.keys inside.server.seal in
    let both = subst (λ host. IsOf lock (g.S.Seal.keys host.server.seal) setting × Stands setting host draw world) (sym c.self.view_is) (is, stands) in
    let stood = both.1 in
    let served = quiet-stands lock ring setting inside.server inside.moment inside.service inside.clock inside.past draw world Restart c.restart.new.self c.fresh.result
    both.0.seal stood
    (record { stands = c.restart.ensures.stands world.server stood.server; drawn = stood.drawn; sent = tt; entered = refl })
    c.fresh.ensures stood.moment in
    starts-again setting c.restart.new.self inside.moment c.fresh.result inside.clock inside.past c.starts_again.new.self draw (serves setting Restart world)
    c.in_ok-starts_again.ensures.again served
