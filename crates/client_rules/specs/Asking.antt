-- What a client is asked to do by its user, none of which sends anything at once.
use Rattle.std.specs.Prelude.{ℕ, ◌%◌, ◌==◌, ◌&&◌, ◌||◌, not, nat_lt, nat_le, Bool, true, false, if◌then◌else◌, Option, Some, None, option_map, List, length, map}
use Rattle.std.specs.List.{list_any}
use Rattle.byteorder.specs.Endian.{little_number}
use Rattle.service_tl.specs.Schema.{service_numbers, gzip_packed}
use Rattle.call_table.specs.declared.call.CallNo.{CallNo}
use Rattle.call_table.specs.Table.{Call, calls_max, added, at, flagged, is_sent}
use Rattle.client_rules.specs.Client.{Binding, Asked, Temporary, Client, calls_of, with_calls, with_call, has_sent}

-- a body begins with this constructor
abbrev pub begins : ℕ → List ℕ → Bool
begins number body = nat_le 4 (length body) && little_number 4 body == number

-- ---- a call is submitted

-- most bytes of a call's body
abbrev pub body_bytes_max : ℕ
body_bytes_max = 262144

-- why a body isn't taken as a call, the first of these that holds: it is too long, it isn't whole words of 4 bytes, a
-- constructor of the session layer begins it, it is to execute after a call that isn't there, there are too many calls
pub data Fault : Type 0 where
  TooLong : ℕ → Fault
  NotWords : ℕ → Fault
  ServiceTag : ℕ → Fault
  NoSuchCall : Fault
  TooMany : Fault

-- a constructor of the session layer begins it, other than that of a packed body
abbrev pub is_refused : ℕ → Bool
is_refused number = not (number == gzip_packed) && list_any (λ service. number == service) service_numbers

abbrev pub begins_service : List ℕ → Bool
begins_service body = nat_le 4 (length body) && is_refused (little_number 4 body)

-- there is such a call, among so many
abbrev pub has_call : ℕ → CallNo → Bool
has_call count call = nat_lt 0 call.n && nat_le call.n count

abbrev pub has_earlier : ℕ → Option CallNo → Bool
has_earlier count None = true
has_earlier count (Some call) = has_call count call

-- at a client of so many calls
abbrev pub fault_at : ℕ → List ℕ → Option CallNo → Option Fault
fault_at count body after =
    if nat_lt body_bytes_max (length body) then Some (TooLong (length body))
    else if not (length body % 4 == 0) then Some (NotWords (length body))
    else if begins_service body then Some (ServiceTag (little_number 4 body))
    else if not (has_earlier count after) then Some NoSuchCall
    else if nat_le calls_max count then Some TooMany
    else None

abbrev pub submit_fault : List ℕ → Option CallNo → Client → Option Fault
submit_fault body after client = fault_at (length (calls_of client)) body after

-- the client with the call, which is the last one and queued
abbrev pub submitted : List ℕ → Option CallNo → Client → Client
submitted body after client = record client { table = added body after client.table }

-- ---- what is to be sent again

abbrev pub alone : Call → Call
alone call = flagged (record call.flags { alone = true }) call

-- a call is to be sent again, alone, under its number
abbrev pub alone_if_sent : Call → Call
alone_if_sent call = if is_sent call.state then alone call else call

abbrev pub is_asked : Binding → Bool
is_asked (Asked message) = true
is_asked _ = false

abbrev pub alone_if_asked : Temporary → Temporary
alone_if_asked temporary = if is_asked temporary.binding then record temporary { is_alone = true } else temporary

-- a connection was opened: the binding that was asked for and all calls that are sent go again
abbrev pub attached : Client → Client
attached client =
    with_calls (map alone_if_sent (calls_of client))
    (record client { temporary = option_map alone_if_asked client.temporary })

-- ---- wishes of an open client

-- to ask how its calls fared
abbrev pub ticked : Client → Client
ticked client = record client { waiting = record client.waiting { states = has_sent client || client.waiting.states } }

-- to be answered: a later ping takes the place of one that waits
abbrev pub pinged : ℕ → Client → Client
pinged id client = record client { waiting = record client.waiting { ping = Some id } }

abbrev pub salts_asked : ℕ → Client → Client
salts_asked count client = record client { waiting = record client.waiting { salts = Some count } }

-- the call is sent
abbrev pub is_call_sent : Option Call → Bool
is_call_sent None = false
is_call_sent (Some call) = is_sent call.state

abbrev pub can_drop : CallNo → Client → Bool
can_drop call client = has_call (length (calls_of client)) call && is_call_sent (at call (calls_of client))

-- to have the answer to a call that is sent dropped
abbrev pub drops : Call → Call
drops call = flagged (record call.flags { dropping = true }) call

abbrev pub dropped : CallNo → Client → Client
dropped call client = if can_drop call client then with_call call drops client else client

-- ---- what is told of the binding: none under a permanent key

abbrev pub binding_of : Client → Option Binding
binding_of client = option_map (λ temporary. temporary.binding) client.temporary
