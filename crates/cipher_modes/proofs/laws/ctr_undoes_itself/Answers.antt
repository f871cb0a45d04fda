use Rattle.cipher_modes.proofs.CtrLaws.{applied_twice}
use Rattle.cipher_modes.proofs.laws.ctr_undoes_itself.Goals as goal

pub returns : goal.returns
returns c = applied_twice
