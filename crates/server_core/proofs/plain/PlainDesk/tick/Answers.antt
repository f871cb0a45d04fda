use Rattle.std.proofs.Common.{ℕ, max, subst}
use Rattle.server_session.specs.Says.{setting_of}
use Rattle.server_rules.specs.Answer.{after_tick}
use Rattle.server_core.specs.Desks.{Does}
use Rattle.server_core.specs.Server.{StandsFor}
use Rattle.server_core.proofs.plain.PlainDesk.tick.Goals as goal

pub returns-clause-given : goal.returns-clause-given
returns-clause-given g c = λ ring server is.
    let draw = c.args.self.now.draw.now in
    let old = c.args.self.now.server.now in
    subst (λ (own : ℕ). Does (StandsFor c.tick.new.self) g.S.Seal.lock (g.S.Seal.keys old.seal) c.tick.new.draw c.in_ok-tick.field-0
    (after_tick (setting_of (max own c.args.now) g.D.Draw.step ring) server draw)) is.stands.moment (c.in_ok-tick.ensures.given ring server is)
