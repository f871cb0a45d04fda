use Rattle.trace_check.proofs.Judging.{iff_by, yes}
use Rattle.trace_check.proofs.Tests.{cause_at}
use Rattle.trace_check.proofs.judge.Judge.has_cause.Goals as goal

pub returns-in-Some : goal.returns-in-Some
returns-in-Some c = iff_by c.is_lost_so.ensures (cause_at c.args.self.now.book.facts.items c.args.place c.in-Some.call c.in-Some.told.now c.in-Some.ensures)

pub returns-in-None : goal.returns-in-None
returns-in-None c = yes (λ call cause at. absurd (c.in-None.ensures _ _ at))
