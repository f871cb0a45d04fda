use Rattle.law_server.proofs.Words.{owes-own, gives_up-own, finishes-own, attaches-own}
use Rattle.law_server.proofs.laws.sessions_speak_for_themselves.Goals as goal

pub returns-clause-owes : goal.returns-clause-owes
returns-clause-owes g c = owes-own

pub returns-clause-gives_up : goal.returns-clause-gives_up
returns-clause-gives_up g c = gives_up-own

pub returns-clause-finishes : goal.returns-clause-finishes
returns-clause-finishes g c = finishes-own

pub returns-clause-attaches : goal.returns-clause-attaches
returns-clause-attaches g c = attaches-own
