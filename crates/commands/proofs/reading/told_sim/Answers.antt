use Rattle.std.proofs.Common.{◌∙◌, ap}
use Rattle.clap.specs.Words.{is_simple_and_free}
use Rattle.commands.proofs.Takings.{sim_is_simple}
use Rattle.commands.proofs.reading.told_sim.Goals as goal

pub take-requires : goal.take-requires
take-requires c = ap is_simple_and_free c.in_ok-sim_command.ensures ∙ sim_is_simple
