use Rattle.std.proofs.Common.{sym}
use Rattle.trace_check.proofs.judge.Judge.was_served.Goals as goal

pub returns-in-Some : goal.returns-in-Some
returns-in-Some c = c.requires.served.each c.args.place c.in-Some.served (sym c.in-Some.ensures)
