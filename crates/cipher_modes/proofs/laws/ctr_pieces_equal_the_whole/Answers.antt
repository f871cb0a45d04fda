use Rattle.cipher_modes.proofs.CtrLaws.{applied_in_turn-concat}
use Rattle.cipher_modes.proofs.laws.ctr_pieces_equal_the_whole.Goals as goal

pub returns : goal.returns
returns c = applied_in_turn-concat
