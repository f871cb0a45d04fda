use Rattle.cipher_modes.proofs.IgeLaws.{ige-inverse_ige}
use Rattle.cipher_modes.proofs.laws.ige_enciphering_undoes_deciphering.Goals as goal

pub returns : goal.returns
returns c = λ key iv text n k. ige-inverse_ige c.block_laws.ensures key iv text n (λ _. k)
