use Rattle.std.proofs.Common.{ℕ, List, subst}
use Rattle.std.specs.Prelude.{if◌then◌else◌}
use Rattle.server_rules.specs.Event.{Speaker}
use Rattle.server_rules.specs.Rows.{acknowledges}
use Rattle.server_rules.specs.Server.{has_accepted}
use Rattle.server_rules.specs.Speaking.{says_it_is_new}
use Rattle.server_session.specs.Says.{setting_of}
use Rattle.server_dispatch.specs.Speaks.{Speaks}
use Rattle.server_dispatch.proofs.Using.{both-unsaid}
use Rattle.server_dispatch.proofs.turn.Turn.opens.Goals as goal

pub returns-clause-speaks : goal.returns-clause-speaks
returns-clause-speaks g c = λ keys jobs bindings speaker judged are speaks.
    let setting = setting_of c.args.now g.D.Draw.step keys in
    let next : Speaker g.row.D.Denot = if has_accepted speaker.session then speaker else says_it_is_new setting speaker in
    let told = c.acknowledges.ensures.speaks keys jobs bindings c.greets.new.draw next (c.greets.ensures.speaks keys jobs bindings speaker speaks) in
    subst (λ (numbers : List ℕ). Speaks c.args.now c.acknowledges.new.standing c.acknowledges.new.self jobs bindings c.greets.new.draw (acknowledges setting numbers next)) are told

pub returns-clause-unsaid : goal.returns-clause-unsaid
returns-clause-unsaid g c =
    both-unsaid c.args.standing.now c.greets.new.standing c.acknowledges.new.standing c.args.self.now.owing c.greets.new.self.owing c.acknowledges.new.self.owing
    c.greets.ensures.unsaid c.acknowledges.ensures.unsaid
