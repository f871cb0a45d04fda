use Rattle.transport.proofs.InOrder.{in_order, next_is, no_more}
use Rattle.transport.proofs.laws.what_is_told_is_heard.Goals as goal

pub returns-clause-in_order : goal.returns-clause-in_order
returns-clause-in_order c = in_order c.ctr_pieces_equal_the_whole.ensures c.one_reading.ensures.apart c.streams_go_on.ensures.lasts

pub returns-clause-next : goal.returns-clause-next
returns-clause-next c = next_is

pub returns-clause-no_more : goal.returns-clause-no_more
returns-clause-no_more c = no_more
