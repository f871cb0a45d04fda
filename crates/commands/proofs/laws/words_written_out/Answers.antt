use Rattle.commands.proofs.Written.{sim_alone, sim_wire, version_alone}
use Rattle.commands.proofs.laws.words_written_out.Goals as goal

pub returns : goal.returns
returns c = record { sim = sim_alone; wire = sim_wire; version = version_alone }
