use Rattle.server_core.proofs.First.{work-first}
use Rattle.server_core.proofs.laws.runs_come_first.Goals as goal

pub returns : goal.returns
returns g c = λ setting place serve service server draw job order ready. work-first setting place serve service server draw job order ready
