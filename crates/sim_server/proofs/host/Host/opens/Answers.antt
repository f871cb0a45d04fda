use Rattle.std.proofs.Common.{◌≡◌, ◌∙◌, max, ap, sym, subst}
use Rattle.std.specs.Prelude.{IfOk, is_some}
use Rattle.envelope.specs.declared.parts.Dir.TheVariants.{Up}
use Rattle.msg_ids.specs.Moments.{moment_of}
use Rattle.world_rules.specs.World.{server_now}
use Rattle.sim_server.specs.Hosts.{Stands}
use Rattle.sim_server.specs.Settings.{IsOf, setting_in}
use Rattle.sim_server.proofs.Heard.{opens-not, opens-so}
use Rattle.sim_server.proofs.host.Host.opens.Goals as goal
use Rattle.sim_server.proofs.host.Host.opens.Goals.{in-Envelope, in-Refused, in-Memory}

pub returns : goal.returns
returns g c = λ sealing draw world is stands.
    let setting = setting_in g.D.Draw.step g.V.Service.step g.V.Service.fresh_state sealing in
    let inside = c.self.inside in
    let lock = g.S.Seal.lock in
    let both = subst (λ host. IsOf lock (g.S.Seal.keys host.server.seal) setting × Stands setting host draw world) (sym c.self.view_is) (is, stands) in
    let stood = both.1 in
    let bytes = c.args.bytes.now in
    let moment = c.later-now.result in
    let same : moment ≡ server_now world = c.later-now.ensures ∙ ap (λ n. max n c.new.result) stood.moment ∙ ap (λ n. max world.server.now n) (c.new.ensures ∙ ap moment_of stood.clock) in
    let of = subst (λ seal. IsOf lock (g.S.Seal.keys seal) setting) (sym c.seal.ensures) both.0 in
    let ring = g.S.Seal.keys c.seal.result.now in
    elim c.match-unseal.branch [
      | in-Envelope w ↦
          subst (λ told. IfOk told (λ opens. opens ≡ is_some (setting.opens (server_now world) Up bytes))) (sym w.result-is)
          (opens-so lock ring setting moment (server_now world) bytes w.in-Envelope.field-0 of same w.in-Envelope.ensures.envelope)
      | in-Refused w ↦
          subst (λ told. IfOk told (λ opens. opens ≡ is_some (setting.opens (server_now world) Up bytes))) (sym w.result-is)
          (opens-not lock ring setting moment (server_now world) bytes w.in-Refused.field-0 of c.opens_what_it_sealed.ensures same w.in-Refused.ensures.refused)
      | in-Memory w ↦ subst (λ told. IfOk told (λ opens. opens ≡ is_some (setting.opens (server_now world) Up bytes))) (sym w.result-is) tt
    ]
