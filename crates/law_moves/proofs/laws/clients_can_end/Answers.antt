use Rattle.std.proofs.Common.{refl}
use Rattle.law_moves.specs.Witness.{ended, given_up}
use Rattle.law_moves.proofs.Runs.{run_lawful}
use Rattle.law_moves.proofs.laws.clients_can_end.Goals as goal

pub returns-clause-lawful : goal.returns-clause-lawful
returns-clause-lawful c = run_lawful ended refl

pub returns-clause-gives_up : goal.returns-clause-gives_up
returns-clause-gives_up c = run_lawful given_up refl
