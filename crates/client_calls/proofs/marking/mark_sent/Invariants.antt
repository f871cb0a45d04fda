use Rattle.std.specs.Prelude.{ℕ}
use Rattle.call_table.specs.Kept.{Stands as StandsFor}
use Rattle.call_table.specs.Table.{Table}
use Rattle.client_calls.specs.Sound.{AreSound}
use Rattle.client_calls.proofs.MarkLemmas.{marked}
use Rattle.client_calls.proofs.marking.mark_sent.Given as goal

-- so many of the calls that are sent are marked
abbrev pub invariant-loop-k : goal.invariant-loop-k
invariant-loop-k l =
    ((table : Table) → StandsFor l.initial.calls table → StandsFor l.calls (record table { calls = marked l.k table.calls }))
    × ((last : ℕ) → AreSound last l.initial.calls.rows → AreSound last l.calls.rows)
