use Rattle.trace_check.proofs.Judging.{iff_by}
use Rattle.trace_check.proofs.Marking.{body_before}
use Rattle.trace_check.proofs.Tests.{first_is, next_is}
use Rattle.trace_check.proofs.judge.is_next.Goals as goal

pub returns-in-Some : goal.returns-in-Some
returns-in-Some c =
    next_is c.args.book.now.facts.items c.args.place c.args.call c.in-Some.before c.has_before.result c.in-Some.ensures
    (iff_by c.has_before.ensures (body_before c.args.book.now.facts.items c.in-Some.before c.args.place))

pub returns-in-None : goal.returns-in-None
returns-in-None c = first_is c.args.book.now.facts.items c.args.place c.args.call c.in-None.ensures
