use Rattle.std.proofs.Common.{refl}
use Rattle.law_moves.specs.Witness.{first_contact}
use Rattle.law_moves.proofs.Runs.{run_lawful}
use Rattle.law_moves.proofs.laws.sessions_can_begin.Goals as goal

pub returns-clause-lawful : goal.returns-clause-lawful
returns-clause-lawful c = run_lawful first_contact refl
