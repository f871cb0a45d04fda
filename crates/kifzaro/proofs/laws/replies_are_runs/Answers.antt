use Rattle.waits.specs.Jobs.{ready_job}
use Rattle.kifzaro.proofs.RequestLemmas.{given_runs, run_leaves}
use Rattle.kifzaro.proofs.laws.replies_are_runs.Goals as goal

pub returns-clause-run : goal.returns-clause-run
returns-clause-run g c = λ setting request reply serve service server draw asks gives. given_runs setting (ready_job 0 server.jobs) request reply serve service server draw asks gives

pub returns-clause-state : goal.returns-clause-state
returns-clause-state g c = λ setting request serve service server draw asks. run_leaves setting (ready_job 0 server.jobs) request serve service server draw asks
