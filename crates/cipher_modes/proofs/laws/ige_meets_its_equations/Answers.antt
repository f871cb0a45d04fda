use Rattle.cipher_modes.proofs.IgeLaws.{ige-MeetsIgeEquations}
use Rattle.cipher_modes.proofs.laws.ige_meets_its_equations.Goals as goal

pub returns : goal.returns
returns c = λ key iv text n k. ige-MeetsIgeEquations c.block_laws.ensures key iv text n (λ _. k)
