use Rattle.std.proofs.lemmas.Bool.{both_ways}
use Rattle.trace_check.proofs.Judging.{yes}
use Rattle.trace_check.proofs.judge.Judge.is_unrun.Goals as goal

pub returns-then-not-is_idle : goal.returns-then-not-is_idle
returns-then-not-is_idle c = yes (λ idle has. both_ways c.is_idle.result c.if-not-is_idle.true (c.is_idle.ensures.1 idle))

pub returns : goal.returns
returns c = (λ e idle. c.has_no_entry.ensures.0 e, λ h. c.has_no_entry.ensures.1 (h (c.is_idle.ensures.0 c.if-not-is_idle.false)))
