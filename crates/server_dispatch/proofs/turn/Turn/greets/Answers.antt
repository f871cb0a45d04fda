use Rattle.std.proofs.Common.{◌≡◌, ◌∙◌, Bool, false, ap}
use Rattle.std.specs.Prelude.{not}
use Rattle.server_rules.specs.Server.{has_accepted}
use Rattle.server_dispatch.proofs.turn.Turn.greets.Goals as goal

pub returns-then-is_new-clause-speaks : goal.returns-then-is_new-clause-speaks
returns-then-is_new-clause-speaks g c = λ keys jobs bindings speaker speaks.
    let none : has_accepted speaker.session ≡ false =
    c.is_new.ensures c.args.now speaker.session speaks.says.stands ∙ ap (λ (one : Bool). not one) c.if-is_new.true in
    rw none (c.says_it_is_new.ensures.speaks keys jobs bindings speaker speaks)
