use Rattle.waits.proofs.Answering.{each_told, each_named, others_of_first, others_of_ready, others_of_session}
use Rattle.waits.proofs.laws.ready_after_each.Goals as goal

pub returns-clause-each : goal.returns-clause-each
returns-clause-each c = each_told

pub returns-clause-named : goal.returns-clause-named
returns-clause-named c = each_named

pub returns-clause-others : goal.returns-clause-others
returns-clause-others c = others_of_first

pub returns-clause-others_of_ready : goal.returns-clause-others_of_ready
returns-clause-others_of_ready c = others_of_ready

pub returns-clause-others_of_session : goal.returns-clause-others_of_session
returns-clause-others_of_session c = others_of_session
