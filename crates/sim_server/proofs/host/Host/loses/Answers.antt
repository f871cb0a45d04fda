use Rattle.std.proofs.Common.{refl, sym, subst}
use Rattle.server_rules.specs.Events.{Loss}
use Rattle.server_rules.specs.Server.{Name}
use Rattle.sim_server.specs.Hosts.{Stands}
use Rattle.sim_server.specs.Settings.{IsOf, setting_in}
use Rattle.sim_server.proofs.Serving.{quiet-stands}
use Rattle.sim_server.proofs.host.Host.loses.Goals as goal

pub returns-clause-stands : goal.returns-clause-stands
returns-clause-stands g c = λ sealing draw world is stands.
    let setting = setting_in g.D.Draw.step g.V.Service.step g.V.Service.fresh_state sealing in
    let inside = c.self.inside in
    let lock = g.S.Seal.lock in
    let ring = g.S.Seal.keys inside.server.seal in
    let both = subst (λ host. IsOf lock (g.S.Seal.keys host.server.seal) setting × Stands setting host draw world) (sym c.self.view_is) (is, stands) in
    let stood = both.1 in
    let name : Name = record { key = c.args.key; session = c.args.session } in
    quiet-stands lock ring setting inside.server inside.moment inside.service inside.clock inside.past draw world (Loss name) c.lose.new.self inside.service
    both.0.seal stood
    (record { stands = c.lose.ensures.stands world.server stood.server; drawn = stood.drawn; sent = tt; entered = refl })
    stood.service stood.moment
