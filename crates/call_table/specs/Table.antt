-- The table of a client's calls: the message identifiers under which each was sent, and what became of it; the
-- acknowledgements that wait, and the packets that are remembered
-- (core.telegram.org/mtproto/service_messages_about_messages, "Acknowledgment of Receipt" and "Notice of Ignored
-- Error Message"; core.telegram.org/mtproto/description, "Message Identifier" and "Server Salt").
use Rattle.std.specs.Prelude.{ℕ, zero, suc, ◌+◌, ◌-◌, ◌<◌, ◌≤◌, nat_lt, Bool, true, false, not, ◌==◌, if◌then◌else◌, Option, Some, None, option_map, IfSome, List, [], ◌∷◌, ◌++◌, length, drop, filter, map, fold, slice_get}
use Rattle.std.specs.List.{AllByRecursion, list_all}
use Rattle.call_table.specs.declared.call.CallNo.{CallNo}
use Rattle.call_table.specs.declared.call.Cause.{Cause}
use Rattle.call_table.specs.declared.call.Living.{Living}
use Rattle.call_table.specs.declared.call.Flags.{Flags}
use Rattle.call_table.specs.declared.call.Under.{Under}
use Rattle.call_table.specs.declared.call.Under.TheVariants.{Zero, One, More}
use Rattle.call_table.specs.declared.call.Fate.{Fate}
use Rattle.call_table.specs.declared.call.Fate.TheVariants as fate
use Rattle.call_table.specs.declared.call.Group.{Group}
use Rattle.call_table.specs.declared.call.Group.TheVariants as group
use Rattle.call_table.specs.declared.packet.Packet.{Packet}

-- ---- a call

-- a name of a call: the session in which it was sent, its message as it went, with its message identifier, and the
-- salts under which that message was sent, the last one first
pub record Name : Type 0 where
  pub session : ℕ
  pub message : Living
  pub salts : List ℕ

-- what became of a call
pub data State : Type 0 where
  Queued : State
  Sent : State
  Held : State
  Done : List ℕ → State
  Refused : ℕ → State
  Unknown : Cause → State

-- a call: its body, an earlier call after which it is to execute, what became of it, its names, the last one first,
-- and what is still to be done about it
pub record Call : Type 0 where
  pub body : List ℕ
  pub after : Option CallNo
  pub state : State
  pub names : List Name
  pub flags : Flags

-- nothing is to be done
abbrev pub no_flags : Flags
no_flags = record { alone = false; dropping = false }

-- a call that was just submitted
abbrev pub new_call : List ℕ → Option CallNo → Call
new_call body after = record { body = body; after = after; state = Queued; names = []; flags = no_flags }

abbrev pub is_queued : State → Bool
is_queued Queued = true
is_queued _ = false

abbrev pub is_sent : State → Bool
is_sent Sent = true
is_sent _ = false

abbrev pub is_held : State → Bool
is_held Held = true
is_held _ = false

-- it isn't decided yet what became of it
abbrev pub is_open : State → Bool
is_open Queued = true
is_open Sent = true
is_open Held = true
is_open _ = false

-- the living name: the last one, while the call is sent
abbrev pub living_name_in : State → List Name → Option Name
living_name_in Sent (name ∷ names) = Some name
living_name_in _ _ = None

abbrev pub living_name : Call → Option Name
living_name call = living_name_in call.state call.names

-- under which salts a message was sent: none but 0, one other, or more
abbrev pub under_others : List ℕ → Under
under_others [] = Zero
under_others (salt ∷ salts) = if list_all (λ other. other == salt) salts then One salt else More

abbrev pub under_of : List ℕ → Under
under_of salts = under_others (filter (λ salt. not (salt == 0)) salts)

-- the call is sent: it gets a name
abbrev pub sent : ℕ → Living → ℕ → Call → Call
sent session message salt call = record call {
  state = Sent;
  names = record { session = session; message = message; salts = salt ∷ [] } ∷ call.names;
}

-- its message is sent once more: its last name gets a salt
abbrev pub with_salt : ℕ → List Name → List Name
with_salt salt [] = []
with_salt salt (name ∷ names) = record name { salts = salt ∷ name.salts } ∷ names

abbrev pub sent_again : ℕ → Call → Call
sent_again salt call = record call { names = with_salt salt call.names }

-- something becomes of it, and nothing is to be done about it any more
abbrev pub state_after : Fate → State
state_after fate.Queue = Queued
state_after fate.Hold = Held
state_after (fate.Done bytes) = Done bytes
state_after (fate.Refused code) = Refused code
state_after (fate.Unknown cause) = Unknown cause

abbrev pub settled : Fate → Call → Call
settled fate call = record call { state = state_after fate; flags = no_flags }

abbrev pub flagged : Flags → Call → Call
flagged flags call = record call { flags = flags }

-- ---- the calls in order

-- the most calls that a client has
abbrev pub calls_max : ℕ
calls_max = 65536

-- the number of the call at a place, from 0
abbrev pub call_no : ℕ → CallNo
call_no place = record { n = place + 1 }

-- there is a call of this number
abbrev pub IsGiven : {X : Type 0} → CallNo → List X → Type 0
IsGiven call calls = (0 < call.n) × (call.n ≤ length calls)

-- an earlier call than the one at a place
abbrev pub IsEarlier : ℕ → CallNo → Type 0
IsEarlier place call = (0 < call.n) × (call.n ≤ place)

-- what stands in the place of a call
abbrev pub at : {X : Type 0} → CallNo → List X → Option X
at call calls = slice_get calls (call.n - 1)

-- the state of a call
abbrev pub state_at : CallNo → List Call → Option State
state_at call calls = option_map (λ one. one.state) (at call calls)

-- one of them is changed: the one with so many before it
abbrev pub changed_at : {X : Type 0} → ℕ → (X → X) → List X → List X
changed_at place change [] = []
changed_at zero change (x ∷ xs) = change x ∷ xs
changed_at (suc place) change (x ∷ xs) = x ∷ changed_at place change xs

abbrev pub changed : {X : Type 0} → CallNo → (X → X) → List X → List X
changed call change calls = changed_at (call.n - 1) change calls

-- the places of those that pass a test, in order, where the first one has this place
abbrev pub places_from : {X : Type 0} → (X → Bool) → ℕ → List X → List ℕ
places_from test place [] = []
places_from test place (x ∷ xs) = if test x then place ∷ places_from test (place + 1) xs else places_from test (place + 1) xs

abbrev pub first_from : {X : Type 0} → (X → Bool) → ℕ → List X → Option ℕ
first_from test place [] = None
first_from test place (x ∷ xs) = if test x then Some place else first_from test (place + 1) xs

-- the message identifier of the living name is this one
abbrev pub is_number_of : ℕ → Option Name → Bool
is_number_of number None = false
is_number_of number (Some name) = name.message.number == number

-- the outstanding call of a message identifier
abbrev pub owner : ℕ → List Call → Option CallNo
owner number calls = option_map call_no (first_from (λ call. is_number_of number (living_name call)) 0 calls)

-- a number takes its place among ascending ones
abbrev pub with_number : ℕ → List ℕ → List ℕ
with_number number [] = number ∷ []
with_number number (first ∷ others) = if nat_lt first number then first ∷ with_number number others else number ∷ (first ∷ others)

abbrev pub with_own : Option ℕ → List ℕ → List ℕ
with_own None numbers = numbers
with_own (Some number) numbers = with_number number numbers

-- the message identifiers of the living names, in ascending order
abbrev pub living_numbers : List Call → List ℕ
living_numbers [] = []
living_numbers (call ∷ calls) = with_own (option_map (λ name. name.message.number) (living_name call)) (living_numbers calls)

-- each living message identifier is below this one
abbrev pub AreBelow : ℕ → List Call → Type 0
AreBelow number calls = AllByRecursion (λ call. IfSome (living_name call) (λ name. name.message.number < number)) calls

-- what the calls of a group have in common
abbrev pub is_in : Group → Call → Bool
is_in group.Queued call = is_queued call.state
is_in group.Outstanding call = is_sent call.state
is_in group.Held call = is_held call.state
is_in group.Alone call = call.flags.alone
is_in group.Dropping call = call.flags.dropping

-- the calls of a group, in call order
abbrev pub group_of : Group → List Call → List CallNo
group_of group calls = map call_no (places_from (is_in group) 0 calls)

-- ---- the table

-- the calls, the acknowledgements that wait, in order, and the packets that are remembered, in order
pub record Table : Type 0 where
  pub calls : List Call
  pub acks : List ℕ
  pub packets : List Packet

abbrev pub no_calls : Table
no_calls = record { calls = []; acks = []; packets = [] }

-- a call is submitted
abbrev pub added : List ℕ → Option CallNo → Table → Table
added body after table = record table { calls = table.calls ++ new_call body after ∷ [] }

-- a call is changed
abbrev pub with_call : CallNo → (Call → Call) → Table → Table
with_call call change table = record table { calls = changed call change table.calls }

-- the most acknowledgements that wait
abbrev pub acks_max : ℕ
acks_max = 8192

-- the most packets that are remembered
abbrev pub packets_max : ℕ
packets_max = 64

-- the last so many
abbrev pub newest : {X : Type 0} → ℕ → List X → List X
newest count xs = drop (length xs - count) xs

-- an acknowledgement waits; the oldest is pushed out where there are too many
abbrev pub acknowledged : ℕ → List ℕ → List ℕ
acknowledged number acks = newest acks_max (acks ++ number ∷ [])

-- a packet is remembered by its number and the numbers of the calls in it; the oldest is pushed out likewise
abbrev pub remembered : ℕ → List ℕ → List Packet → List Packet
remembered outer inner packets = newest packets_max (packets ++ record { outer = outer; inner = inner } ∷ [])

-- the numbers of the calls in the packet that was remembered last under this number
abbrev pub inner_of : ℕ → List Packet → Option (List ℕ)
inner_of outer packets = fold (λ found packet. if packet.outer == outer then Some packet.inner else found) None packets
