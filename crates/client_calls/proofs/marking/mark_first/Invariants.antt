use Rattle.std.proofs.Common.{◌≡◌, ℕ, List, Some, fold, length, take}
use Rattle.call_table.specs.Kept.{Stands as StandsFor}
use Rattle.call_table.specs.Table.{Table, inner_of}
use Rattle.client_calls.specs.Marks.{table_alone}
use Rattle.client_calls.specs.Sound.{AreSound}
use Rattle.client_calls.proofs.marking.mark_first.Given as goal

abbrev pub invariant-loop-place : goal.invariant-loop-place
invariant-loop-place l =
    ((table : Table) → StandsFor l.initial.calls table → (numbers : List ℕ) → inner_of l.about table.packets ≡ Some numbers → length numbers ≡ l.count
    → StandsFor l.calls (fold table_alone table (take l.place numbers)))
    × ((last : ℕ) → AreSound last l.initial.calls.rows → AreSound last l.calls.rows)
