use Rattle.std.proofs.Common.{arith}
use Rattle.transport.proofs.OneStart.{one_start, not_awaited, not_refused}
use Rattle.transport.proofs.laws.first_bytes_tell_one_thing.Goals as goal

pub returns-clause-one_start : goal.returns-clause-one_start
returns-clause-one_start c = one_start c.one_answer.ensures.pair c.one_answer.ensures.not_both

pub returns-clause-not_awaited : goal.returns-clause-not_awaited
returns-clause-not_awaited c = not_awaited c.one_answer.ensures.pair c.one_answer.ensures.not_both

pub returns-clause-not_refused : goal.returns-clause-not_refused
returns-clause-not_refused c = not_refused c.one_answer.ensures.pair c.one_answer.ensures.not_both

pub returns-clause-awaited_or_refused : goal.returns-clause-awaited_or_refused
returns-clause-awaited_or_refused c = λ bytes wire awaited refused. omega (arith, awaited.few, refused.enough)
