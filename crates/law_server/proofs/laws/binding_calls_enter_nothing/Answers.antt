use Rattle.law_server.proofs.Binding.{binds-jobs, binds-entries}
use Rattle.law_server.proofs.laws.binding_calls_enter_nothing.Goals as goal

pub returns-clause-jobs : goal.returns-clause-jobs
returns-clause-jobs g c = binds-jobs

pub returns-clause-entries : goal.returns-clause-entries
returns-clause-entries g c = binds-entries
