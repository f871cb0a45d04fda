use Rattle.aes_core.proofs.AesLaws.{product-inverse, inverse_zero}
use Rattle.aes_core.proofs.laws.inverse_is_multiplicative.Goals as goal

pub returns : goal.returns
returns c = record { inverse = product-inverse; zero = inverse_zero }
