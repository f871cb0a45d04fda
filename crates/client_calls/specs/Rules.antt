-- What becomes of all calls of a table by one rule; and, as scaffolding and no promise, of what is kept of them.
use Rattle.std.specs.Prelude.{ℕ, Bool, if◌then◌else◌, Option, Some, None, map}
use Rattle.call_table.specs.declared.call.Fate.{Fate}
use Rattle.call_table.specs.declared.row.Progress.{Progress}
use Rattle.call_table.specs.declared.row.Progress.TheVariants as progress
use Rattle.call_table.specs.declared.row.Row.{Row}
use Rattle.call_table.specs.Table.{Call, Table, living_name}
use Rattle.call_table.specs.Kept.{Contents as Calls, settled_row, state_of}
use Rattle.client_rules.specs.Learning.{fate_at_end, fate_learning, fate_under, settled_if}
use Rattle.client_rules.specs.Events.{fate_renewed}
use Rattle.client_calls.specs.declared.settling.Rule.{Rule}
use Rattle.client_calls.specs.declared.settling.Rule.TheVariants as rule

-- what a rule says of a call
abbrev pub fate_by : Rule → Call → Option Fate
fate_by rule.Renewed call = fate_renewed call.state
fate_by rule.Ended call = fate_at_end call.state
fate_by (rule.Learnt is_first salt) call = fate_learning is_first salt (living_name call)

abbrev pub call_by : Rule → Call → Call
call_by rule call = settled_if (fate_by rule call) call

abbrev pub table_by : Rule → Table → Table
table_by rule table = record table { calls = map (call_by rule) table.calls }

-- ---- scaffolding: what it says of what is kept of a call

abbrev pub fate_learnt_in : Bool → ℕ → Progress → Option Fate
fate_learnt_in is_first salt (progress.Sent living under) = fate_under is_first salt under
fate_learnt_in is_first salt other = None

abbrev pub fate_in : Rule → Row → Option Fate
fate_in rule.Renewed row = fate_renewed (state_of row.progress)
fate_in rule.Ended row = fate_at_end (state_of row.progress)
fate_in (rule.Learnt is_first salt) row = fate_learnt_in is_first salt row.progress

abbrev pub settled_row_if : Option Fate → Row → Row
settled_row_if None row = row
settled_row_if (Some fate) row = settled_row fate row

abbrev pub row_by : Rule → Row → Row
row_by rule row = settled_row_if (fate_in rule row) row

abbrev pub kept_by : Rule → Calls → Calls
kept_by rule calls = record calls { rows = map (row_by rule) calls.rows }

-- those that pass a test are changed
abbrev pub changed_if : {X : Type 0} → (X → Bool) → (X → X) → X → X
changed_if test change x = if test x then change x else x

abbrev pub kept_if : (Row → Bool) → (Row → Row) → Calls → Calls
kept_if test change calls = record calls { rows = map (changed_if test change) calls.rows }

abbrev pub table_if : (Call → Bool) → (Call → Call) → Table → Table
table_if test change table = record table { calls = map (changed_if test change) table.calls }
