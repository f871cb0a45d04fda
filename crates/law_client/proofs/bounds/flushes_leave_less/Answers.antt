use Rattle.law_client.proofs.Due.{due-few, flush-less}
use Rattle.law_client.proofs.bounds.flushes_leave_less.Goals as goal

pub returns-clause-less : goal.returns-clause-less
returns-clause-less g c = flush-less

pub returns-clause-few : goal.returns-clause-few
returns-clause-few g c = due-few
