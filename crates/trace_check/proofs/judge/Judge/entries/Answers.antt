use Rattle.trace_check.proofs.Judging.{entries_row}
use Rattle.trace_check.proofs.judge.Judge.entries.Goals as goal

pub returns : goal.returns
returns c =
    let are = c.requires.executed in
    entries_row c.args.self.now.book.facts.items are.keys c.args.call c.find.result are.callers are.counted (c.find.ensures are.keys are.indexes)
