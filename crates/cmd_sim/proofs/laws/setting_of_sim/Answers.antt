use Rattle.cmd_sim.proofs.KeyTexts.{sim_ring-has}
use Rattle.cmd_sim.proofs.Settling.{setting-is-of}
use Rattle.cmd_sim.proofs.laws.setting_of_sim.Goals as goal

pub returns-clause-keys : goal.returns-clause-keys
returns-clause-keys c = sim_ring-has

pub returns-clause-seal : goal.returns-clause-seal
returns-clause-seal c = setting-is-of c.packets_open_as_worked_out.ensures.of_the_protocol c.rings_have_keys.ensures
