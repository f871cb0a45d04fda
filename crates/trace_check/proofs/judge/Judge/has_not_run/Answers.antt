use Rattle.trace_check.proofs.Judging.{iff_by, yes}
use Rattle.trace_check.proofs.Tests.{idle_at}
use Rattle.trace_check.proofs.judge.Judge.has_not_run.Goals as goal

pub returns-in-Some : goal.returns-in-Some
returns-in-Some c = iff_by c.is_unrun.ensures (idle_at c.args.self.now.book.facts.items c.args.place c.in-Some.call c.in-Some.told.now c.in-Some.ensures)

pub returns-in-None : goal.returns-in-None
returns-in-None c = yes (λ call told at idle has. c.in-None.ensures call told at)
