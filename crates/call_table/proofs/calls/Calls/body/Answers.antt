use Rattle.std.proofs.Common.{◌-◌, ◌<◌, length, ap, sym, arith}
use Rattle.call_table.specs.declared.row.Row.{Row}
use Rattle.call_table.specs.Table.{Call}
use Rattle.call_table.specs.Kept.{Contents}
use Rattle.call_table.proofs.StandsLemmas.{told_stands}
use Rattle.call_table.proofs.calls.Calls.body.Goals as goal

pub returns-clause-body : goal.returns-clause-body
returns-clause-body c = λ table stands.
    let within : c.place_of.result < length c.self.inside.rows.items = omega (arith, c.place_of.ensures, c.requires.given.0, c.requires.given.1, ap (λ (kept : Contents). length kept.rows) c.self.view_is) in
    told_stands (λ (row : Row). row.body) (λ (call : Call). call.body) (λ row call h. h.body) c.args.self.now table c.self.inside.rows.items (c.args.call.n - 1) c.place_of.result c.index.result.now _ (ap (λ (kept : Contents). kept.rows) c.self.view_is) c.place_of.ensures within c.index.ensures (sym c.body.ensures) stands
