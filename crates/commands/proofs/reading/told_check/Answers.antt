use Rattle.std.proofs.Common.{◌∙◌, ap}
use Rattle.clap.specs.Words.{is_simple_and_free}
use Rattle.commands.proofs.Takings.{check_is_simple}
use Rattle.commands.proofs.reading.told_check.Goals as goal

pub take-requires : goal.take-requires
take-requires c = ap is_simple_and_free c.in_ok-check_command.ensures ∙ check_is_simple
