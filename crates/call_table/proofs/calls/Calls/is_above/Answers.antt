use Rattle.std.proofs.Common.{sym, subst}
use Rattle.std.specs.List.{AllByRecursion}
use Rattle.call_table.specs.Kept.{Contents, IsBelow}
use Rattle.call_table.proofs.IndexLemmas.{names_are_below, rows_are_below}
use Rattle.call_table.proofs.calls.Calls.is_above.Goals as goal

pub returns : goal.returns
returns c = (
  λ t. subst (λ (kept : Contents). AllByRecursion (IsBelow c.args.number) kept.rows) c.self.view_is (rows_are_below c.args.number c.self.inside.rows.items c.self.inside.names.items c.self.invariant.0.indexed (c.are_below.ensures.0 t)),
  λ below. c.are_below.ensures.1 (names_are_below c.args.number c.self.inside.rows.items c.self.inside.names.items c.self.invariant.0.indexed (subst (λ (kept : Contents). AllByRecursion (IsBelow c.args.number) kept.rows) (sym c.self.view_is) below)),
)
