use Rattle.server_core.proofs.Running.{run-by_one}
use Rattle.server_core.proofs.laws.one_session_runs.Goals as goal

pub returns : goal.returns
returns g c = λ setting place job reply state session found unfailed. run-by_one setting place job reply state session found unfailed
