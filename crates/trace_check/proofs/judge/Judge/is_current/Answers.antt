use Rattle.trace_check.proofs.Judging.{iff_by, yes}
use Rattle.trace_check.proofs.Tests.{current_at}
use Rattle.trace_check.proofs.judge.Judge.is_current.Goals as goal

pub returns-in-Some : goal.returns-in-Some
returns-in-Some c = iff_by c.is_living.ensures (current_at c.args.self.now.book.facts.items c.args.place c.in-Some.entry.now c.in-Some.ensures)

pub returns-in-None : goal.returns-in-None
returns-in-None c = yes (λ call entry is replaced. c.in-None.ensures entry is.at)
