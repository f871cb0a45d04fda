use Rattle.server_session.specs.Says.{setting_of}
use Rattle.server_dispatch.proofs.Steps.{spoken, acknowledges-rest}
use Rattle.server_dispatch.proofs.turn.Turn.acknowledges.Goals as goal

pub returns-clause-speaks : goal.returns-clause-speaks
returns-clause-speaks g c = λ keys jobs bindings draw speaker speaks.
    spoken _ _ _ _ _ _ _ _ _ _ _ speaks (c.acknowledges.ensures.says keys draw speaker) (acknowledges-rest (setting_of c.args.now g.D.Draw.step keys) c.args.ids.now speaker)
