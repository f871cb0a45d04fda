use Rattle.std.proofs.Common.{◌∷◌, [], arith, length-append}
use Rattle.frame_full.proofs.laws.numbers_go_on.Goals as goal

pub returns-clause-next : goal.returns-clause-next
returns-clause-next c = λ packets packet. omega (arith, length-append packets (packet ∷ []))
