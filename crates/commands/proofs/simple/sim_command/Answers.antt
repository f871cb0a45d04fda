use Rattle.std.proofs.Common.{◌∙◌, ap₂}
use Rattle.clap.specs.Words.{with_rule}
use Rattle.commands.specs.Simple.{sim}
use Rattle.commands.proofs.simple.sim_command.Goals as goal

pub returns : goal.returns
unfolding sim
returns c = c.in_ok-arg.ensures.shape c.flag.ensures.own ∙ ap₂ with_rule c.new.ensures.app c.flag.ensures.rule
