use Rattle.std.proofs.Common.{refl}
use Rattle.law_moves.proofs.laws.time_goes_on.Goals as goal

pub returns : goal.returns
returns c = λ w move. refl
