use Rattle.std.proofs.Common.{refl}
use Rattle.law_moves.specs.Witness.{resent}
use Rattle.law_moves.proofs.Runs.{run_lawful}
use Rattle.law_moves.proofs.laws.calls_can_be_done.Goals as goal

pub returns-clause-lawful : goal.returns-clause-lawful
returns-clause-lawful c = run_lawful resent refl
