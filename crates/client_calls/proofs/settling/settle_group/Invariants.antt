use Rattle.std.proofs.Common.{◌≡◌, ◌-◌}
use Rattle.call_table.specs.Kept.{Stands as StandsFor, is_row_in}
use Rattle.call_table.specs.Table.{Table, is_in}
use Rattle.client_calls.specs.Rules.{call_by, row_by}
use Rattle.client_calls.proofs.WalkLemmas.{later}
use Rattle.client_calls.proofs.settling.settle_group.Given as goal

-- those of the group that have fewer before them are as they were
abbrev pub invariant-loop-k : goal.invariant-loop-k
invariant-loop-k l =
    (l.calls ≡ record l.initial.calls { rows = later (is_row_in l.group) (row_by l.rule) (l.count - l.k) l.initial.calls.rows })
    × ((table : Table) → StandsFor l.initial.calls table → StandsFor l.calls (record table { calls = later (is_in l.group) (call_by l.rule) (l.count - l.k) table.calls }))
