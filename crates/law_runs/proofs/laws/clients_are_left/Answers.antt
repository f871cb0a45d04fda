use Rattle.law_runs.proofs.Clients.{clients-left}
use Rattle.law_runs.proofs.laws.clients_are_left.Goals as goal

pub returns : goal.returns
returns g c = clients-left
