-- Which calls of a table are to be sent again.
use Rattle.std.specs.Prelude.{ℕ, ◌==◌, if◌then◌else◌, Option, Some, None, List, fold, length}
use Rattle.std.specs.List.{zip}
use Rattle.call_table.specs.declared.call.CallNo.{CallNo}
use Rattle.call_table.specs.Table.{Table, owner, with_call}
use Rattle.client_rules.specs.Asking.{alone}
use Rattle.client_rules.specs.Taking.{goes_again}

abbrev pub table_alone_at : Option CallNo → Table → Table
table_alone_at None table = table
table_alone_at (Some call) table = with_call call alone table

-- the call that is outstanding under this number
abbrev pub table_alone : Table → ℕ → Table
table_alone table number = table_alone_at (owner number table.calls) table

-- where its state says so
abbrev pub table_told : Table → ℕ × ℕ → Table
table_told table (number, byte) = if goes_again byte then table_alone table number else table

-- a state for each number
abbrev pub table_states : List ℕ → List ℕ → Table → Table
table_states numbers info table = if length info == length numbers then fold table_told table (zip numbers info) else table

-- those in a packet that is remembered
abbrev pub table_inner : Option (List ℕ) → Table → Table
table_inner None table = table
table_inner (Some numbers) table = fold table_alone table numbers
