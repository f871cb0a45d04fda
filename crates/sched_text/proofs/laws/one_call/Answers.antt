use Rattle.sched_text.proofs.Readings.{one_call}
use Rattle.sched_text.proofs.laws.one_call.Goals as goal

pub returns : goal.returns
returns c = λ words body other after next. one_call words body other after next
