use Rattle.std.proofs.Common.{◌≡◌, ◌∙◌, ℕ, max, ap}
use Rattle.envelope.specs.declared.parts.Dir.TheVariants.{Up}
use Rattle.msg_ids.specs.Moments.{moment_of}
use Rattle.sim_server.specs.Settings.{rings_of, setting_in}
use Rattle.sim_server.proofs.Heard.{heard-did}
use Rattle.sim_server.proofs.hearing.hears.Goals as goal

pub returns-clause-given : goal.returns-clause-given
returns-clause-given g c = λ sealing rules service clock is at stands.
    let setting = setting_in g.D.Draw.step g.V.Service.step g.V.Service.fresh_state sealing in
    let old = c.args.server.now in
    let moment = max old.moment c.args.now in
    let own = max rules.now (moment_of clock) in
    let same : moment ≡ own = ap (λ (n : ℕ). max n c.args.now) stands.stands.moment ∙ ap (λ (n : ℕ). max rules.now n) at in
    heard-did g.S.Seal.lock (g.S.Seal.keys old.seal) setting old c.on_packet.new.self c.args.draw.now c.on_packet.new.draw c.in_ok-out.field-0 rules
    service clock moment c.args.bytes.now (setting.opens own Up c.args.bytes.now) (ap (λ (n : ℕ). setting.opens n Up c.args.bytes.now) same)
    same is c.in_ok-out.ensures.heard
    (λ refusal refused. (c.in_ok-out.ensures.refused refusal refused, c.in_ok-out.ensures.stays rules refusal stands refused))
    (λ envelope opens. c.in_ok-out.ensures.given (rings_of setting) rules envelope is.rings stands opens)
