use Rattle.std.proofs.Common.{◌∙◌, ap}
use Rattle.std.specs.Prelude.{reverse}
use Rattle.cmd_sim.specs.KeysOfSim.{descending}
use Rattle.cmd_sim.proofs.key_ring.descending_bytes.Goals as goal

pub returns : goal.returns
unfolding descending
returns c = c.reverse.ensures.after ∙ ap reverse c.ascending_bytes-bytes.ensures
