use Rattle.std.proofs.Common.{map}
use Rattle.trace_check.specs.Keys.{key_of}
use Rattle.trace_check.proofs.Lookups.{tells}
use Rattle.trace_check.proofs.Places.{row_is_before}
use Rattle.trace_check.proofs.book.Book.has_before.Goals as goal

pub returns : goal.returns
returns c = tells _ _ c.is_before.ensures (row_is_before (map (key_of c.args.by) c.args.self.now.facts.items) c.args.key c.row.result c.args.place (c.row.ensures c.requires))
