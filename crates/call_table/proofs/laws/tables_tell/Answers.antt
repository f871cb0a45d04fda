use Rattle.std.proofs.Common.{◌-◌, ◌≡◌, length, arith}
use Rattle.call_table.specs.declared.row.Row.{Row}
use Rattle.call_table.specs.Table.{Call}
use Rattle.call_table.specs.Kept.{IsRowOf, state_of}
use Rattle.call_table.proofs.StandsLemmas.{zip_length, zip_told, row_state, below_stands}
use Rattle.call_table.proofs.laws.tables_tell.Goals as goal

pub returns-clause-count : goal.returns-clause-count
returns-clause-count c = λ kept table stands. zip_length IsRowOf kept.rows table.calls stands.rows

pub returns-clause-given : goal.returns-clause-given
returns-clause-given c = λ kept table stands call given.
    let same : length kept.rows ≡ length table.calls = zip_length IsRowOf kept.rows table.calls stands.rows in
    (given.0, omega (arith, given.1))

pub returns-clause-states : goal.returns-clause-states
returns-clause-states c = λ kept table stands call. zip_told IsRowOf (λ (row : Row). state_of row.progress) (λ (one : Call). one.state) row_state (call.n - 1) kept.rows table.calls stands.rows

pub returns-clause-above : goal.returns-clause-above
returns-clause-above c = λ kept table stands number below. below_stands number kept table stands below
