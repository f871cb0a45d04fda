use Rattle.cmd_sim.proofs.Ends.{out-of-memory-run}
use Rattle.cmd_sim.proofs.laws.memory_may_run_out.Goals as goal

pub returns : goal.returns
returns g c = λ wire input out untouched. out-of-memory-run wire input out untouched
