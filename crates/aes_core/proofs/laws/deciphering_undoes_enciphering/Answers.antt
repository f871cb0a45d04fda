use Rattle.aes_core.proofs.AesLaws.{inverse_aes-aes}
use Rattle.aes_core.proofs.laws.deciphering_undoes_enciphering.Goals as goal

pub returns : goal.returns
returns c = inverse_aes-aes
