use Rattle.law_runs.proofs.Servers.{server-left}
use Rattle.law_runs.proofs.laws.servers_are_left.Goals as goal

pub returns : goal.returns
returns g c = server-left
