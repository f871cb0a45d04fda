use Rattle.aes_core.proofs.AesLaws.{aes-inverse_aes}
use Rattle.aes_core.proofs.laws.enciphering_undoes_deciphering.Goals as goal

pub returns : goal.returns
returns c = aes-inverse_aes
