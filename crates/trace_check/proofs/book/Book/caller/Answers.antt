use Rattle.trace_check.proofs.Lookups.{caller_first, caller_none}
use Rattle.trace_check.proofs.book.Book.caller.Goals as goal

pub returns-in-Some : goal.returns-in-Some
returns-in-Some c =
    caller_first c.args.self.now.facts.items c.args.name c.in-Some.ensures.0 c.in-Some.fact.now c.caller_in.result c.in-Some.ensures.1 c.in-Some.ensures.2 c.caller_in.ensures

pub returns-in-None : goal.returns-in-None
returns-in-None c = caller_none c.args.self.now.facts.items c.args.name c.in-None.ensures
