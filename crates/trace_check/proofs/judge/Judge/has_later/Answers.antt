use Rattle.trace_check.proofs.Lookups.{tells}
use Rattle.trace_check.proofs.Tests.{later_rows}
use Rattle.trace_check.proofs.judge.Judge.has_later.Goals as goal

pub returns : goal.returns
returns c =
    let book = c.requires.judge.book in
    tells _ _ c.is_later.ensures
    (later_rows c.args.self.now.book.facts.items c.requires.judge.lawful c.args.call c.args.name c.row-own.result c.row-all.result c.requires.named (c.row-own.ensures book) (c.row-all.ensures book))
