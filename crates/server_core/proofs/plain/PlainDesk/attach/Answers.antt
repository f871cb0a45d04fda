use Rattle.std.proofs.Common.{ℕ, max, subst}
use Rattle.server_session.specs.Says.{setting_of}
use Rattle.server_rules.specs.Answer.{after_attach}
use Rattle.server_rules.specs.Server.{Name}
use Rattle.server_core.specs.Desks.{Does}
use Rattle.server_core.specs.Server.{StandsFor}
use Rattle.server_core.proofs.plain.PlainDesk.attach.Goals as goal

pub returns-clause-given : goal.returns-clause-given
returns-clause-given g c = λ ring server is.
    let name : Name = record { key = c.args.key; session = c.args.session } in
    let draw = c.args.self.now.draw.now in
    let old = c.args.self.now.server.now in
    subst (λ (own : ℕ). Does (StandsFor c.attach.new.self) g.S.Seal.lock (g.S.Seal.keys old.seal) c.attach.new.draw c.in_ok-attach.field-0
    (after_attach (setting_of (max own c.args.now) g.D.Draw.step ring) name server draw)) is.stands.moment (c.in_ok-attach.ensures.given ring server is)
