-- What a `Calls` keeps of a table. It keeps no name that was replaced, and of the salts of a living name only whether
-- there is none but 0, one other, or more.
use Rattle.std.specs.Prelude.{◌≡◌, ℕ, ◌<◌, Bool, true, false, ◌==◌, ◌||◌, if◌then◌else◌, Option, Some, None, option_map, IfSome, List, [], ◌∷◌}
use Rattle.std.specs.List.{AllZip}
use Rattle.call_table.specs.declared.call.CallNo.{CallNo}
use Rattle.call_table.specs.declared.call.CallState.{CallState}
use Rattle.call_table.specs.declared.call.CallState.TheVariants as told
use Rattle.call_table.specs.declared.call.Living.{Living}
use Rattle.call_table.specs.declared.call.Flags.{Flags}
use Rattle.call_table.specs.declared.call.Under.{Under}
use Rattle.call_table.specs.declared.call.Under.TheVariants.{Zero, One, More}
use Rattle.call_table.specs.declared.call.Fate.{Fate}
use Rattle.call_table.specs.declared.call.Fate.TheVariants as fate
use Rattle.call_table.specs.declared.call.Group.{Group}
use Rattle.call_table.specs.declared.call.Group.TheVariants as group
use Rattle.call_table.specs.declared.packet.Packet.{Packet}
use Rattle.call_table.specs.declared.row.Progress.{Progress}
use Rattle.call_table.specs.declared.row.Progress.TheVariants as progress
use Rattle.call_table.specs.declared.row.Row.{Row}
use Rattle.call_table.specs.Table.{State, Queued, Sent, Held, Done, Refused, Unknown, Name, Call, Table, no_flags, is_queued, is_sent, is_held, under_of, call_no, at, changed, first_from, with_own}

-- what contracts see of a `Calls`: its rows, one a call, the waiting acknowledgements, the remembered packets, and for
-- how many more sendings room is reserved
pub record Contents : Type 0 where
  pub rows : List Row
  pub acks : List ℕ
  pub packets : List Packet
  pub room : ℕ

-- ---- what a row tells

abbrev pub state_of : Progress → State
state_of progress.Queued = Queued
state_of (progress.Sent living under) = Sent
state_of progress.Held = Held
state_of (progress.Done bytes) = Done bytes
state_of (progress.Refused code) = Refused code
state_of (progress.Unknown cause) = Unknown cause

-- the state that a `CallState` tells
abbrev pub shown : CallState → State
shown told.Queued = Queued
shown told.Sent = Sent
shown told.Held = Held
shown (told.Done bytes) = Done bytes.now
shown (told.Refused code) = Refused code
shown (told.Unknown cause) = Unknown cause

abbrev pub living_in : Progress → Option Living
living_in (progress.Sent living under) = Some living
living_in _ = None

abbrev pub under_in : Progress → Option Under
under_in (progress.Sent living under) = Some under
under_in _ = None

-- the message identifier under which a row's call is outstanding
abbrev pub number_in : Progress → Option ℕ
number_in (progress.Sent living under) = Some living.number
number_in _ = None

-- the state of a call, by its row
abbrev pub state_in : CallNo → List Row → Option State
state_in call rows = option_map (λ row. state_of row.progress) (at call rows)

abbrev pub is_row_in : Group → Row → Bool
is_row_in group.Queued row = is_queued (state_of row.progress)
is_row_in group.Outstanding row = is_sent (state_of row.progress)
is_row_in group.Held row = is_held (state_of row.progress)
is_row_in group.Alone row = row.flags.alone
is_row_in group.Dropping row = row.flags.dropping

-- there is one, and it passes a test
abbrev pub passes : {X : Type 0} → (X → Bool) → Option X → Bool
passes test None = false
passes test (Some x) = test x

-- a call is one of a group
abbrev pub IsMember : Group → CallNo → List Row → Type 0
IsMember group.Queued call rows = state_in call rows ≡ Some Queued
IsMember group.Outstanding call rows = state_in call rows ≡ Some Sent
IsMember group.Held call rows = state_in call rows ≡ Some Held
IsMember group.Alone call rows = (state_in call rows ≡ Some Sent) × (option_map (λ row. row.flags.alone) (at call rows) ≡ Some true)
IsMember group.Dropping call rows = (state_in call rows ≡ Some Sent) × (option_map (λ row. row.flags.dropping) (at call rows) ≡ Some true)

-- a row's call isn't outstanding under this message identifier or one above it
abbrev pub IsBelow : ℕ → Row → Type 0
IsBelow number row = IfSome (number_in row.progress) (λ living. living < number)

abbrev pub is_number : ℕ → Option ℕ → Bool
is_number number None = false
is_number number (Some own) = own == number

abbrev pub owner_in : ℕ → List Row → Option CallNo
owner_in number rows = option_map call_no (first_from (λ row. is_number number (number_in row.progress)) 0 rows)

-- the message identifiers under which the rows' calls are outstanding, in ascending order
abbrev pub numbers_in : List Row → List ℕ
numbers_in [] = []
numbers_in (row ∷ rows) = with_own (number_in row.progress) (numbers_in rows)

-- ---- what changes a row

abbrev pub new_row : List ℕ → Option CallNo → Row
new_row body after = record { body = body; after = after; progress = progress.Queued; flags = no_flags }

-- a message that was sent so is sent under one more salt
abbrev pub under_again : ℕ → Under → Under
under_again salt Zero = if salt == 0 then Zero else One salt
under_again salt (One other) = if salt == 0 || salt == other then One other else More
under_again salt More = More

abbrev pub sent_row : Living → ℕ → Row → Row
sent_row living salt row = record row { progress = progress.Sent living (under_again salt Zero) }

abbrev pub progress_again : ℕ → Progress → Progress
progress_again salt (progress.Sent living under) = progress.Sent living (under_again salt under)
progress_again salt other = other

abbrev pub again_row : ℕ → Row → Row
again_row salt row = record row { progress = progress_again salt row.progress }

abbrev pub progress_after : Fate → Progress
progress_after fate.Queue = progress.Queued
progress_after fate.Hold = progress.Held
progress_after (fate.Done bytes) = progress.Done bytes
progress_after (fate.Refused code) = progress.Refused code
progress_after (fate.Unknown cause) = progress.Unknown cause

abbrev pub settled_row : Fate → Row → Row
settled_row fate row = record row { progress = progress_after fate; flags = no_flags }

abbrev pub flagged_row : Flags → Row → Row
flagged_row flags row = record row { flags = flags }

-- the row of a call is changed
abbrev pub with_row : CallNo → (Row → Row) → Contents → Contents
with_row call change contents = record contents { rows = changed call change contents.rows }

-- ---- what it stands for

-- the last name is that of this message, which was sent under these salts
abbrev pub IsNewest : Living → Under → List Name → Type 0
IsNewest living under [] = ⊥
IsNewest living under (name ∷ names) = (name.message ≡ living) × (under_of name.salts ≡ under)

abbrev pub IsProgressOf : Progress → State → List Name → Type 0
IsProgressOf (progress.Sent living under) state names = (state ≡ Sent) × IsNewest living under names
IsProgressOf other state names = state ≡ state_of other

-- a row is that of a call
pub record IsRowOf (row : Row) (call : Call) : Type 0 where
  pub body : row.body ≡ call.body
  pub after : row.after ≡ call.after
  pub progress : IsProgressOf row.progress call.state call.names
  pub flags : row.flags ≡ call.flags

-- what is kept stands for a table
pub record Stands (kept : Contents) (table : Table) : Type 0 where
  -- a row for each call, in order
  pub rows : AllZip IsRowOf kept.rows table.calls
  -- the acknowledgements and the packets are the table's
  pub acks : kept.acks ≡ table.acks
  pub packets : kept.packets ≡ table.packets
