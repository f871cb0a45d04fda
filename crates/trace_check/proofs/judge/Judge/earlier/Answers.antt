use Rattle.trace_check.proofs.Tests.{break_here, break_later}
use Rattle.trace_check.proofs.judge.Judge.earlier.Goals as goal

pub returns-in-Some : goal.returns-in-Some
returns-in-Some c = λ later. break_here c.args.self.now.book.facts.items c.args.sentence c.in-Some.place c.in-Some.ensures

pub returns-in-None : goal.returns-in-None
returns-in-None c = λ later. break_later c.args.self.now.book.facts.items c.args.sentence c.args.later c.in-None.ensures later
