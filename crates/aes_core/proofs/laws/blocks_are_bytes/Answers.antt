use Rattle.aes_core.proofs.AesLaws.{HasBytes-aes, HasBytes-inverse_aes}
use Rattle.aes_core.proofs.laws.blocks_are_bytes.Goals as goal

pub returns : goal.returns
returns c = record { enciphered = HasBytes-aes; deciphered = HasBytes-inverse_aes }
