use Rattle.commands.proofs.Sayings.{one_command}
use Rattle.commands.proofs.laws.one_reading.Goals as goal

pub returns : goal.returns
returns c = one_command
