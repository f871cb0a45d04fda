use Rattle.cmd_relay.proofs.Ends.{out-of-memory-run}
use Rattle.cmd_relay.proofs.laws.memory_may_run_out.Goals as goal

pub returns : goal.returns
returns g c = λ form secret input out untouched. out-of-memory-run form secret input out untouched
