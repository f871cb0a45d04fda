use Rattle.transport.proofs.Meeting.{not_awaited_there, not_refused_there, meets}
use Rattle.transport.proofs.laws.ends_meet.Goals as goal

pub returns-clause-not_awaited : goal.returns-clause-not_awaited
returns-clause-not_awaited c = not_awaited_there c.one_answer.ensures.pair c.one_answer.ensures.not_both

pub returns-clause-not_refused : goal.returns-clause-not_refused
returns-clause-not_refused c = not_refused_there c.one_answer.ensures.pair c.one_answer.ensures.not_both

pub returns-clause-meets : goal.returns-clause-meets
returns-clause-meets c = meets c.one_answer.ensures.pair c.one_answer.ensures.not_both
