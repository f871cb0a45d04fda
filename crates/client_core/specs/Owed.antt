-- How many bytes of messages what waits at a client may come to, and how many numbers: scaffolding of private functions, and
-- no promise.
use Rattle.std.specs.Prelude.{◌≡◌, ℕ, zero, suc, ◌+◌, ◌-◌, ◌*◌, ◌<◌, ◌≤◌, ◌&&◌, Bool, true, false, if◌then◌else◌, is_some, min, Option, Some, None, List, [], ◌∷◌, length, slice_get}
use Rattle.tl_codec.specs.Spelling.{string_size}
use Rattle.containers.specs.Container.{message_head, messages_max}
use Rattle.call_table.specs.declared.call.CallNo.{CallNo}
use Rattle.call_table.specs.declared.call.Group.TheVariants as group
use Rattle.call_table.specs.declared.row.Row.{Row}
use Rattle.call_table.specs.Table.{is_queued, places_from}
use Rattle.call_table.specs.Kept.{is_row_in, numbers_in, state_of}
use Rattle.client_rules.specs.Client.{Binding, Bound, Client, States, Temporary, Waiting, is_open}
use Rattle.client_rules.specs.Filling.{numbers_max}
use Rattle.client_core.specs.Asked.{bind_body_bytes, needed_of}
use Rattle.client_core.specs.Calling.{wrap_bytes}
use Rattle.client_core.specs.Draft.{Draft, HasRoomFor}
use Rattle.client_core.specs.Kept.{Contents}

-- a message that names so many others
abbrev pub list_bytes : ℕ → ℕ
list_bytes count = message_head + (12 + 8 * count)

-- a message of a number alone: a ping, the end of a session, the wish to drop an answer
abbrev pub one_bytes : ℕ
one_bytes = message_head + 12

-- a request for salts
abbrev pub salts_bytes : ℕ
salts_bytes = message_head + 8

-- how messages fared
abbrev pub told_bytes : Option States → ℕ
told_bytes None = 0
told_bytes (Some states) = message_head + (12 + string_size (length states.info))

-- for the states of how many calls is asked
abbrev pub asked_count : Bool → List Row → ℕ
asked_count false rows = 0
asked_count true rows = min (length (numbers_in rows)) numbers_max

-- what waits beside the calls and the binding, from each kind on: a ping, a request for salts and the end of a session;
-- a request for states; one for answers; how messages fared; acknowledgements
abbrev pub small_bytes : ℕ
small_bytes = one_bytes + (salts_bytes + one_bytes)

abbrev pub states_on : Waiting → List Row → ℕ
states_on waiting rows = list_bytes (asked_count waiting.states rows) + small_bytes

abbrev pub resent_on : Waiting → List Row → ℕ
resent_on waiting rows = list_bytes (length waiting.resent) + states_on waiting rows

abbrev pub told_on : Waiting → List Row → ℕ
told_on waiting rows = told_bytes waiting.told + resent_on waiting rows

abbrev pub waiting_bytes : Contents → ℕ
waiting_bytes core = list_bytes (length core.calls.acks) + told_on core.rest.waiting core.calls.rows

-- a binding, where the client is open and it is to be asked for, and its number
abbrev pub needs_binding : Client → Bool
needs_binding client = is_open client && is_some (needed_of client.temporary)

abbrev pub binding_bytes : ℕ
binding_bytes = message_head + bind_body_bytes

abbrev pub binding_most : Client → ℕ
binding_most client = if needs_binding client then binding_bytes else 0

abbrev pub binding_numbers : Client → ℕ
binding_numbers client = if needs_binding client then 1 else 0

-- the wishes to drop answers
abbrev pub drops_bytes : List Row → ℕ
drops_bytes rows = one_bytes * length (places_from (is_row_in group.Dropping) 0 rows)

-- a queued call, at most: one that is to execute after another may go with that one's number
abbrev pub call_bytes : Row → ℕ
call_bytes row = message_head + (wrap_bytes row.after + length row.body)

-- the binding of an open client's temporary key holds all calls back
abbrev pub is_unbound : Binding → Bool
is_unbound Bound = false
is_unbound _ = true

abbrev pub has_unbound : Option Temporary → Bool
has_unbound None = false
has_unbound (Some temporary) = is_unbound temporary.binding

abbrev pub holds_back : Client → Bool
holds_back client = is_open client && has_unbound client.temporary

-- how many more calls may go behind a queued call, where so many more may beside it: a call that is to execute after no
-- other goes when its turn comes, where none is held back
abbrev pub more_behind : Bool → ℕ → ℕ
more_behind true more = suc more
more_behind false more = more

abbrev pub behind_row : Row → ℕ → ℕ
behind_row row more = more_behind (is_some row.after) more

-- the queued calls up to the last one that may go, where so many may
abbrev pub front_bytes : ℕ → List Row → ℕ
front_bytes most [] = 0
front_bytes zero (row ∷ rows) = 0
front_bytes (suc more) (row ∷ rows) =
    if is_queued (state_of row.progress) then call_bytes row + front_bytes (behind_row row more) rows
    else front_bytes (suc more) rows

-- so many queued calls, and those up to the last one that may go from there on
abbrev pub bytes_from : ℕ → ℕ → List Row → ℕ
bytes_from zero most rows = front_bytes most rows
bytes_from (suc place) most [] = 0
bytes_from (suc place) most (row ∷ rows) =
    if is_queued (state_of row.progress) then call_bytes row + bytes_from place most rows
    else bytes_from (suc place) most rows

-- how many calls are queued
abbrev pub queued_count : List Row → ℕ
queued_count rows = length (places_from (is_row_in group.Queued) 0 rows)

-- as many are, and they come to the same
pub record SameQueue (old new : List Row) : Type 0 where
  pub count : queued_count new ≡ queued_count old
  pub bytes : (most : ℕ) → front_bytes most new ≡ front_bytes most old

-- what is found for the place of a call
abbrev pub row_bytes : Option Row → ℕ
row_bytes None = 0
row_bytes (Some row) = call_bytes row

abbrev pub bytes_at : List Row → Option ℕ → ℕ
bytes_at rows None = 0
bytes_at rows (Some place) = row_bytes (slice_get rows place)

-- and whether it is to execute after another
abbrev pub row_follows : Option Row → Bool
row_follows None = false
row_follows (Some row) = is_some row.after

abbrev pub follows_at : List Row → Option ℕ → Bool
follows_at rows None = false
follows_at rows (Some place) = row_follows (slice_get rows place)

-- the queued calls that may go, and how many
abbrev pub front_of : Contents → ℕ
front_of core = if holds_back core.rest then 0 else front_bytes messages_max core.calls.rows

abbrev pub calls_most : Contents → ℕ
calls_most core = if holds_back core.rest then 0 else min (queued_count core.calls.rows) messages_max

-- all of it, and the numbers of the binding and of the calls
abbrev pub owed_bytes : Contents → ℕ
owed_bytes core = waiting_bytes core + (binding_most core.rest + (drops_bytes core.calls.rows + front_of core))

abbrev pub owed_numbers : Contents → ℕ
owed_numbers core = binding_numbers core.rest + calls_most core

-- ---- the turns of queued calls

-- a call is the queued one that has so many before it
abbrev pub IsQueuedAt : ℕ → CallNo → List Row → Type 0
IsQueuedAt place call rows = slice_get (places_from (is_row_in group.Queued) 0 rows) place ≡ Some (call.n - 1)

-- where no call is held back there is room for the calls that may go and their numbers, or for all that a packet may have,
-- where the turns came of those before this place
pub record HasRoomFrom (core : Contents) (place : ℕ) (draft : Draft) : Type 0 where
  pub bytes : holds_back core.rest ≡ false → draft.is_full ≡ false → (more : ℕ) → draft.count + suc more ≡ messages_max
      → HasRoomFor (bytes_from place (suc more) core.calls.rows) draft
  pub inner : holds_back core.rest ≡ false → draft.is_full ≡ false → draft.count + draft.numbers < messages_max → queued_count core.calls.rows - place ≤ draft.numbers
  pub calls : holds_back core.rest ≡ false → draft.is_full ≡ false → draft.count + core.calls.room < messages_max → queued_count core.calls.rows - place ≤ core.calls.room

-- a call that is to execute after no other goes with no other's number
abbrev pub GoesWith : Option ℕ → CallNo → List Row → Type 0
GoesWith wrap call rows = follows_at rows (Some (call.n - 1)) ≡ false → wrap ≡ None

-- while a message fits there is room for a call and its number
pub record HasRoomOf (core : Contents) (call : CallNo) (draft : Draft) : Type 0 where
  pub bytes : draft.count < messages_max → HasRoomFor (bytes_at core.calls.rows (Some (call.n - 1))) draft
  pub inner : draft.count < messages_max → 0 < draft.numbers
  pub calls : draft.count < messages_max → 0 < core.calls.room
