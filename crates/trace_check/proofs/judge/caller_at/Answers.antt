use Rattle.trace_check.proofs.Lookups.{caller_is}
use Rattle.trace_check.proofs.judge.caller_at.Goals as goal

pub returns-in-Some : goal.returns-in-Some
returns-in-Some c = caller_is c.args.book.now.facts.items c.args.place c.in-Some.entry.now c.caller.result c.in-Some.ensures c.caller.ensures

pub returns-in-None : goal.returns-in-None
returns-in-None c = λ call entry is. c.in-None.ensures entry is.at
