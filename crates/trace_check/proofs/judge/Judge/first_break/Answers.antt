use Rattle.trace_check.proofs.Tests.{none_beyond}
use Rattle.trace_check.proofs.judge.Judge.first_break.Goals as goal

pub returns : goal.returns
returns c =
    c.earlier.ensures
    (c.earlier-found-5.ensures
    (c.earlier-found-4.ensures (c.earlier-found-3.ensures (c.earlier-found-2.ensures (c.earlier-found.ensures (none_beyond c.args.self.now.book.facts.items))))))
