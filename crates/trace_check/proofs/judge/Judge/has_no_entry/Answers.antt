use Rattle.trace_check.proofs.Judging.{no, yes}
use Rattle.trace_check.proofs.judge.Judge.has_no_entry.Goals as goal

pub returns-in-Some : goal.returns-in-Some
returns-in-Some c = no (λ h. h (_, c.in-Some.ensures.first))

pub returns-in-None : goal.returns-in-None
returns-in-None c = yes c.in-None.ensures
