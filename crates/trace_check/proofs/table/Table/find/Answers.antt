use Rattle.std.proofs.Common.{◌∙◌, Option, subst, sym}
use Rattle.trace_check.specs.declared.table.Row.{Row}
use Rattle.trace_check.specs.Indexes.{IsRow}
use Rattle.trace_check.proofs.table.Table.find.Goals as goal

pub returns : goal.returns
returns c = λ keys h. subst (λ (row : Option Row). IsRow keys c.args.key row) (sym (c.copied.ensures ∙ c.get.ensures.value)) (h c.args.key)
