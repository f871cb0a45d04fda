use Rattle.std.proofs.Common.{map, sym, subst}
use Rattle.trace_check.specs.declared.table.Table.{Table}
use Rattle.trace_check.specs.Indexes.{Indexes}
use Rattle.trace_check.specs.Keys.{key_of}
use Rattle.trace_check.proofs.book.Book.row.Goals as goal

pub returns : goal.returns
returns c = λ h.
    let keys = map (key_of c.args.by) c.args.self.now.facts.items in
    c.find.ensures keys (subst (λ (t : Table). Indexes t.rows keys) (sym c.table.ensures) (h c.args.by))
