use Rattle.law_server.proofs.Count.{few-event, course-few}
use Rattle.law_server.proofs.laws.sessions_are_few.Goals as goal

pub returns-clause-event : goal.returns-clause-event
returns-clause-event g c = few-event

pub returns-clause-all : goal.returns-clause-all
returns-clause-all g c = course-few
