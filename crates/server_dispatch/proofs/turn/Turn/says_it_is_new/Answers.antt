use Rattle.std.proofs.Common.{refl}
use Rattle.server_dispatch.proofs.Steps.{spoken}
use Rattle.server_dispatch.proofs.turn.Turn.says_it_is_new.Goals as goal

pub returns-clause-speaks : goal.returns-clause-speaks
returns-clause-speaks g c = λ keys jobs bindings speaker speaks.
    spoken _ _ _ _ _ _ _ _ _ _ _ speaks (c.says_it_is_new.ensures.says keys speaker) (record { jobs = refl; bindings = refl; entries = refl })
