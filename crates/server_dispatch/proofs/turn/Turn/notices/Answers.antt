use Rattle.server_session.specs.Says.{setting_of}
use Rattle.server_dispatch.proofs.Steps.{spoken, notices-rest}
use Rattle.server_dispatch.proofs.turn.Turn.notices.Goals as goal

pub returns-clause-speaks : goal.returns-clause-speaks
returns-clause-speaks g c = λ keys jobs bindings speaker speaks.
    spoken _ _ _ _ _ _ _ _ _ _ _ speaks (c.notices.ensures.says keys speaker) (notices-rest (setting_of c.args.now g.D.Draw.step keys) c.args.number c.args.seq c.args.code speaker)
