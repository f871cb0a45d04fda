use Rattle.server_core.proofs.FewerJobs.{work-fewer}
use Rattle.server_core.proofs.order_laws.runs_leave_fewer_jobs.Goals as goal

pub returns : goal.returns
returns g c = work-fewer
