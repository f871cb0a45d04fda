use Rattle.std.proofs.Common.{◌∙◌, ap}
use Rattle.clap.specs.Words.{is_simple_and_free}
use Rattle.commands.proofs.Takings.{relay_is_simple}
use Rattle.commands.proofs.reading.told_relay.Goals as goal

pub take-requires : goal.take-requires
take-requires c = ap is_simple_and_free c.in_ok-relay_command.ensures ∙ relay_is_simple
