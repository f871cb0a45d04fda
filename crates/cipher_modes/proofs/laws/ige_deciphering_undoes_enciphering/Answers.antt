use Rattle.cipher_modes.proofs.IgeLaws.{inverse_ige-ige}
use Rattle.cipher_modes.proofs.laws.ige_deciphering_undoes_enciphering.Goals as goal

pub returns : goal.returns
returns c = λ key iv text n k. inverse_ige-ige c.block_laws.ensures key iv text n (λ _. k)
