use Rattle.trace_check.proofs.Judging.{first_none, iff_by, yes}
use Rattle.trace_check.proofs.Tests.{first_call}
use Rattle.trace_check.proofs.judge.Judge.is_first.Goals as goal

pub returns-in-Some : goal.returns-in-Some
returns-in-Some c = iff_by c.has_none_before.ensures (first_call c.args.self.now.book.facts.items c.requires.lawful c.args.place c.in-Some.call c.in-Some.ensures)

pub returns-in-None : goal.returns-in-None
returns-in-None c = yes (first_none c.args.self.now.book.facts.items c.args.place c.in-None.ensures)
