-- Kinds of calls: scaffolding of private functions, and no promise.
use Rattle.std.specs.Prelude.{◌≡◌, ◌≤◌, ◌<◌, ℕ, Bool, false, Option, Some, None, List}
use Rattle.std.specs.List.{list_any}
use Rattle.call_table.specs.Kept.{state_in, state_of}
use Rattle.call_table.specs.Table.{Call, State, call_no, is_held, is_open, is_sent}
use Rattle.call_table.specs.declared.row.Row.{Row}
use Rattle.client_node.specs.declared.calls.Kind.{Kind}
use Rattle.client_node.specs.declared.calls.Kind.TheVariants.{Undecided, Sent, Held}

abbrev pub is_kind : Kind → State → Bool
is_kind Undecided state = is_open state
is_kind Sent state = is_sent state
is_kind Held state = is_held state

-- the call at a place, where there is one, is of a kind
abbrev pub is_kind_at : Kind → Option State → Bool
is_kind_at kind None = false
is_kind_at kind (Some state) = is_kind kind state

abbrev pub has_kind : Kind → List Call → Bool
has_kind kind calls = list_any (λ call. is_kind kind call.state) calls

-- the same of what is kept of calls
abbrev pub has_row : Kind → List Row → Bool
has_row kind rows = list_any (λ row. is_kind kind (state_of row.progress)) rows

-- none from one place up to another is of a kind
abbrev pub NoneBetween : Kind → List Row → ℕ → ℕ → Type 0
NoneBetween kind rows first end = (place : ℕ) → first ≤ place → place < end → is_kind_at kind (state_in (call_no place) rows) ≡ false
