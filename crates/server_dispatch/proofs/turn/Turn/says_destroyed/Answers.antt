use Rattle.std.proofs.Common.{refl}
use Rattle.server_dispatch.proofs.Steps.{spoken}
use Rattle.server_dispatch.proofs.turn.Turn.says_destroyed.Goals as goal

pub returns-clause-speaks : goal.returns-clause-speaks
returns-clause-speaks g c = λ keys jobs bindings draw speaker speaks.
    spoken _ _ _ _ _ _ _ _ _ _ _ speaks (c.says_destroyed.ensures.says keys draw speaker) (record { jobs = refl; bindings = refl; entries = refl })
