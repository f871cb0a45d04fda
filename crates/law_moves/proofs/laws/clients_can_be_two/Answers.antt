use Rattle.std.proofs.Common.{refl}
use Rattle.law_moves.specs.Witness.{two_clients}
use Rattle.law_moves.proofs.Runs.{run_lawful}
use Rattle.law_moves.proofs.laws.clients_can_be_two.Goals as goal

pub returns-clause-lawful : goal.returns-clause-lawful
returns-clause-lawful c = run_lawful two_clients refl
