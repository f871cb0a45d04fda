use Rattle.msg_ids.proofs.RunLemmas.{All-IsAfter, AllPairs-IsBefore}
use Rattle.msg_ids.proofs.laws.numbers_rise.Goals as goal

pub returns-clause-rise : goal.returns-clause-rise
returns-clause-rise c = AllPairs-IsBefore

pub returns-clause-above_last : goal.returns-clause-above_last
returns-clause-above_last c = λ counters askings k d inside. (All-IsAfter counters askings k d inside).0
