use Rattle.std.proofs.Common.{◌-◌, ◌<◌, length, ap, sym, arith}
use Rattle.std.specs.Prelude.{option_map}
use Rattle.call_table.specs.declared.row.Row.{Row}
use Rattle.call_table.specs.Table.{Call, living_name}
use Rattle.call_table.specs.Kept.{Contents, living_in}
use Rattle.call_table.proofs.StandsLemmas.{told_stands, row_living}
use Rattle.call_table.proofs.calls.Calls.living.Goals as goal

pub returns-clause-living : goal.returns-clause-living
returns-clause-living c = λ table stands.
    let within : c.place_of.result < length c.self.inside.rows.items = omega (arith, c.place_of.ensures, c.requires.given.0, c.requires.given.1, ap (λ (kept : Contents). length kept.rows) c.self.view_is) in
    told_stands (λ (row : Row). living_in row.progress) (λ (call : Call). option_map (λ name. name.message) (living_name call)) (row_living) c.args.self.now table c.self.inside.rows.items (c.args.call.n - 1) c.place_of.result c.index.result.now _ (ap (λ (kept : Contents). kept.rows) c.self.view_is) c.place_of.ensures within c.index.ensures (sym c.living.ensures) stands
