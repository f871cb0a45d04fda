use Rattle.std.proofs.Common.{refl}
use Rattle.law_moves.specs.Witness.{forgotten}
use Rattle.law_moves.proofs.Runs.{run_lawful}
use Rattle.law_moves.proofs.laws.numbers_can_be_forgotten.Goals as goal

pub returns-clause-lawful : goal.returns-clause-lawful
returns-clause-lawful c = run_lawful forgotten refl
