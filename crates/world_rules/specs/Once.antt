-- Each call executes at most once, as its client sent it, and what is told of it is so.
use Rattle.std.specs.Prelude.{◌≡◌, ◌≢◌, ◌≤◌, ◌⊎◌, ℕ, ◌==◌, ◌&&◌, Bool, true, false, Option, Some, None, List, [], ◌∷◌, ◌++◌, length, map, slice_get, Contains}
use Rattle.std.specs.List.{filter, list_any}
use Rattle.id_window.specs.History.{floor}
use Rattle.service_tl.specs.Results.{constructor_of}
use Rattle.service_tl.specs.Schema.{rpc_error}
use Rattle.regs_service.specs.Served.{Ran, Served}
use Rattle.server_rules.specs.Server.{Fate, Session, WasDropped}
use Rattle.server_rules.specs.Event.{Entry}
use Rattle.call_table.specs.Table.{Call, Name, State, at}
use Rattle.call_table.specs.Table as table
use Rattle.call_table.specs.declared.call.CallNo.{CallNo}
use Rattle.call_table.specs.declared.call.Cause.{Cause}
use Rattle.call_table.specs.declared.call.Cause.TheVariants as cause
use Rattle.client_rules.specs.Client.{Client, calls_of}
use Rattle.world_rules.specs.Setting.{Setting}
use Rattle.world_rules.specs.World.{World, Entered, counted, lives, owns}

-- ---- calls, their names, and entries

-- a call of a client of the world: which client, counted from 1, and in which place among its calls, from 0
pub record IsCallOf {S V : Type 0} (world : World S V) (number place : ℕ) (client : Client) (call : Call) : Type 0 where
  pub clock : ℕ
  pub seated : counted number world.seats ≡ Some (record { client = client; clock = clock })
  pub submitted : slice_get (calls_of client) place ≡ Some call

-- the entry has this name: it is of the client's key, the name's session number and its message number
abbrev pub is_entry_under : Client → Name → Entered → Bool
is_entry_under client name entered =
    (entered.entry.key == client.key) && ((entered.entry.session == name.session) && (entered.entry.number == name.message.number))

abbrev pub entries_under : {S V : Type 0} → World S V → Client → Name → List Entered
entries_under world client name = filter (is_entry_under client name) world.entries

-- all entries over the names of a call
abbrev pub entries_of : {S V : Type 0} → World S V → Client → Call → List Entered
entries_of world client call =
    filter (λ entered. list_any (λ name. is_entry_under client name entered) call.names) world.entries

-- without the first member
abbrev pub without_first : {X : Type 0} → List X → List X
without_first [] = []
without_first (x ∷ xs) = xs

-- the names of a call but the last one
abbrev pub older_names : Call → List Name
older_names call = without_first call.names

-- no name of the call has an entry
abbrev pub HasNoEntry : {S V : Type 0} → World S V → Client → Call → Type 0
HasNoEntry world client call = entries_of world client call ≡ []

-- ---- why it isn't known what became of a call

-- those of some sessions that are under a key and a session number
abbrev pub of_name : ℕ → ℕ → List Session → List Session
of_name key session sessions = filter (λ life. (life.key == key) && (life.number == session)) sessions

-- all that were ever made under them
abbrev pub lives_under : {S V : Type 0} → World S V → ℕ → ℕ → List Session
lives_under world key session = of_name key session (lives world)

-- it was dropped, and not acknowledged
abbrev pub is_dropped : Fate → Bool
is_dropped WasDropped = true
is_dropped _ = false

-- a session dropped its reply to the number
abbrev pub has_dropped : ℕ → Session → Bool
has_dropped number session = list_any (λ reply. (reply.call == number) && is_dropped reply.fate) session.replies

abbrev pub HasForgotten : ℕ → Session → Type 0
HasForgotten number session = (number ≤ floor session.history) ⊎ (has_dropped number session ≡ true)

-- a session under the name's session number has forgotten it
pub record WasForgotten {S V : Type 0} (world : World S V) (key : ℕ) (name : Name) : Type 0 where
  pub life : Session
  pub made : Contains (lives_under world key name.session) life
  pub forgot : HasForgotten name.message.number life

abbrev pub IsCause : {S V : Type 0} → World S V → Client → Name → Cause → Type 0
-- two sessions were made for the name's session number, so that the first was lost
IsCause world client name cause.Session =
    (2 ≤ length (lives_under world client.key name.session)) × (1 ≤ length (of_name client.key name.session world.lost))
IsCause world client name cause.Renewed = Contains client.former name.session
IsCause world client name cause.Ended = client.has_ended ≡ true
IsCause world client name cause.Forgotten = WasForgotten world client.key name

-- by the last name of the call
abbrev pub HasCause : {S V : Type 0} → World S V → Client → List Name → Cause → Type 0
HasCause world client [] cause = ⊥
HasCause world client (name ∷ older) cause = IsCause world client name cause

-- ---- the six sentences

-- an entry is of a name of one call, of one client, that has or had its session number, and its request is that call's body
pub record WasAsked {S V : Type 0} (world : World S V) (entered : Entered) : Type 0 where
  pub number : ℕ
  pub place : ℕ
  pub client : Client
  pub call : Call
  pub submitted : IsCallOf world number place client call
  pub owned : owns entered.entry.session client ≡ true
  pub named : list_any (λ name. is_entry_under client name entered) call.names ≡ true
  pub request : entered.entry.request ≡ call.body
  pub only : (n p : ℕ) (other : Client) (one : Call) → IsCallOf world n p other one
      → list_any (λ name. is_entry_under other name entered) one.names ≡ true → (n ≡ number) × (p ≡ place)

-- exactly one entry over its names, with this reply
pub record RanOnce {S V : Type 0} (world : World S V) (client : Client) (call : Call) (reply : List ℕ) : Type 0 where
  pub entered : Entered
  pub only : entries_of world client call ≡ entered ∷ []
  pub replied : entered.entry.reply ≡ reply

-- what ran in a start of the server, in order
abbrev pub ran_in : ℕ → List Entered → List Ran
ran_in start entries =
    map (λ entered. record { request = entered.entry.request; reply = entered.entry.reply })
    (filter (λ entered. (entered.start == start) && entered.entry.ran) entries)

pub record Once {S V : Type 0} (setting : Setting S V) (world : World S V) : Type 0 where
  -- over all names of a call there is at most one entry
  pub at_most_once : (number place : ℕ) (client : Client) (call : Call) → IsCallOf world number place client call → length (entries_of world client call) ≤ 1
  -- each entry was asked for
  pub as_sent : (entered : Entered) → Contains world.entries entered → WasAsked world entered
  -- a call that is done executed, or was answered in place, once, and has that answer
  pub done : (number place : ℕ) (client : Client) (call : Call) (reply : List ℕ) → IsCallOf world number place client call → call.state ≡ table.Done reply
      → RanOnce world client call reply
  -- a replaced name has no entry, nor has any name of a call that is refused, held or queued
  pub replaced : (number place : ℕ) (client : Client) (call : Call) (name : Name) → IsCallOf world number place client call → Contains (older_names call) name
      → entries_under world client name ≡ []
  pub refused : (number place : ℕ) (client : Client) (call : Call) (code : ℕ) → IsCallOf world number place client call → call.state ≡ table.Refused code
      → HasNoEntry world client call
  pub held : (number place : ℕ) (client : Client) (call : Call) → IsCallOf world number place client call → call.state ≡ table.Held → HasNoEntry world client call
  pub queued : (number place : ℕ) (client : Client) (call : Call) → IsCallOf world number place client call → call.state ≡ table.Queued → HasNoEntry world client call
  -- where it isn't known what became of a call, the cause that is told holds of its last name
  pub unknown : (number place : ℕ) (client : Client) (call : Call) (cause : Cause) → IsCallOf world number place client call → call.state ≡ table.Unknown cause
      → HasCause world client call.names cause
  -- what ran in a start has the replies of the service from its fresh state
  pub served : (start : ℕ) → Served setting.serve setting.fresh (ran_in start world.entries)

-- ---- the order of calls

-- an entry that ran well: its reply doesn't begin with `rpc_error`
pub record RanWell (entered : Entered) : Type 0 where
  pub ran : entered.entry.ran ≡ true
  pub well : constructor_of entered.entry.reply ≢ Some rpc_error.number

abbrev pub earlier_of : Client → Option CallNo → Option Call
earlier_of client None = None
earlier_of client (Some number) = at number (calls_of client)

-- the call after which another is to execute
abbrev pub IsEarlierCall : Client → Call → Call → Type 0
IsEarlierCall client call earlier = earlier_of client call.after ≡ Some earlier

-- An entry that ran, of a call with an earlier call, stands behind an entry of that earlier call that ran well.
abbrev pub InOrder : {S V : Type 0} → World S V → Type 0
InOrder world =
    (number place : ℕ) (client : Client) (call earlier : Call) (before behind : List Entered) (entered : Entered)
    → IsCallOf world number place client call
    → IsEarlierCall client call earlier
    → world.entries ≡ before ++ entered ∷ behind
    → list_any (λ name. is_entry_under client name entered) call.names ≡ true
    → entered.entry.ran ≡ true
    → (first : Entered) × Contains before first × (list_any (λ name. is_entry_under client name first) earlier.names ≡ true) × RanWell first
