use Rattle.std.proofs.Common.{refl}
use Rattle.server_dispatch.proofs.Steps.{spoken}
use Rattle.server_dispatch.proofs.turn.Turn.answers_shortly.Goals as goal

pub returns-clause-speaks : goal.returns-clause-speaks
returns-clause-speaks g c = λ keys jobs bindings draw speaker none speaks.
    rw (← c.bytes.ensures.content)
    (spoken _ _ _ _ _ _ _ _ _ _ _ speaks (c.answers.ensures.says keys draw speaker none) (record { jobs = refl; bindings = refl; entries = refl }))
