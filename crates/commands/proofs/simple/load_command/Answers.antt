use Rattle.std.proofs.Common.{◌∙◌, ap₂}
use Rattle.clap.specs.Words.{with_rule}
use Rattle.commands.specs.Simple.{load}
use Rattle.commands.proofs.simple.load_command.Goals as goal

pub returns : goal.returns
unfolding load
returns c = c.in_ok-arg.ensures.shape c.operand.ensures.own ∙ ap₂ with_rule c.new.ensures.app c.operand.ensures.rule
