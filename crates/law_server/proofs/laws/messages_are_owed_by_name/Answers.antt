use Rattle.law_server.proofs.OwedBy.{said-own, said-others}
use Rattle.law_server.proofs.laws.messages_are_owed_by_name.Goals as goal

pub returns-clause-own : goal.returns-clause-own
returns-clause-own g c = said-own

pub returns-clause-others : goal.returns-clause-others
returns-clause-others g c = said-others
