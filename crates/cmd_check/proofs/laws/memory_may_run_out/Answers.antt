use Rattle.cmd_check.proofs.Ends.{out-of-memory-run}
use Rattle.cmd_check.proofs.laws.memory_may_run_out.Goals as goal

pub returns : goal.returns
returns g c = λ input out untouched. out-of-memory-run input out untouched
