use Rattle.trace_check.proofs.Judging.{iff_by, yes}
use Rattle.trace_check.proofs.Tests.{living_name}
use Rattle.trace_check.proofs.judge.Judge.is_living.Goals as goal

pub returns-in-Some : goal.returns-in-Some
returns-in-Some c = iff_by c.is_last.ensures (living_name c.args.self.now.book.facts.items c.requires.lawful c.in-Some.call c.args.name c.in-Some.ensures)

pub returns-in-None : goal.returns-in-None
returns-in-None c = yes (λ call named replaced. c.in-None.ensures call named)
