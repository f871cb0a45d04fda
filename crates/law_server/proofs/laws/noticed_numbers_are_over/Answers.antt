use Rattle.law_server.proofs.Noticed.{one-judgement, noticed-unanswered, noticed-no_job}
use Rattle.law_server.proofs.laws.noticed_numbers_are_over.Goals as goal

pub returns-clause-once : goal.returns-clause-once
returns-clause-once c = one-judgement

pub returns-clause-replies : goal.returns-clause-replies
returns-clause-replies c = noticed-unanswered

pub returns-clause-jobs : goal.returns-clause-jobs
returns-clause-jobs c = noticed-no_job
