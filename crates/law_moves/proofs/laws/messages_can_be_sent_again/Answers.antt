use Rattle.std.proofs.Common.{refl}
use Rattle.law_moves.specs.Witness.{sent_again}
use Rattle.law_moves.proofs.Runs.{run_lawful}
use Rattle.law_moves.proofs.laws.messages_can_be_sent_again.Goals as goal

pub returns-clause-lawful : goal.returns-clause-lawful
returns-clause-lawful c = run_lawful sent_again refl
