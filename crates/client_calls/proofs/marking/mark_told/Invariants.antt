use Rattle.std.proofs.Common.{ℕ, fold, take}
use Rattle.std.specs.List.{zip}
use Rattle.call_table.specs.Kept.{Stands as StandsFor}
use Rattle.call_table.specs.Table.{Table}
use Rattle.client_calls.specs.Marks.{table_told}
use Rattle.client_calls.specs.Sound.{AreSound}
use Rattle.client_calls.proofs.marking.mark_told.Given as goal

abbrev pub invariant-loop-place : goal.invariant-loop-place
invariant-loop-place l =
    ((table : Table) → StandsFor l.initial.calls table → StandsFor l.calls (fold table_told table (zip (take l.place l.numbers) (take l.place l.states))))
    × ((last : ℕ) → AreSound last l.initial.calls.rows → AreSound last l.calls.rows)
