use Rattle.transport.proofs.OneStart.{not_awaited}
use Rattle.transport.proofs.Wholes.{never_refused}
use Rattle.transport.proofs.laws.sent_bytes_are_taken.Goals as goal

pub returns-clause-not_awaited : goal.returns-clause-not_awaited
returns-clause-not_awaited c client sent bytes sends =
    not_awaited c.one_answer.ensures.pair c.one_answer.ensures.not_both bytes sends.rest sends.opening sends.starts

pub returns-clause-not_refused : goal.returns-clause-not_refused
returns-clause-not_refused c = never_refused c.one_answer.ensures.pair c.one_answer.ensures.not_both
