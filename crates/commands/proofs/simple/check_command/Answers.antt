use Rattle.commands.specs.Simple.{check}
use Rattle.commands.proofs.simple.check_command.Goals as goal

pub returns : goal.returns
unfolding check
returns c = c.new.ensures.app
