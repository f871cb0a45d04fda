use Rattle.std.proofs.lemmas.Bool.{both_ways}
use Rattle.trace_check.proofs.Judging.{no}
use Rattle.trace_check.proofs.judge.Judge.is_unreplaced.Goals as goal

pub returns-then-not-is_current : goal.returns-then-not-is_current
returns-then-not-is_current c = no (λ keeps. both_ways c.is_current.result c.if-not-is_current.true (c.is_current.ensures.1 keeps.0))

pub returns : goal.returns
returns c = (λ e. (c.is_current.ensures.0 c.if-not-is_current.false, c.has_not_run.ensures.0 e), λ keeps. c.has_not_run.ensures.1 keeps.1)
