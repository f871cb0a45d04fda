-- A call that is to execute after an earlier one, and how it goes (core.telegram.org/api/invoking, "Saving query order").
use Rattle.std.specs.Prelude.{◌≡◌, ◌<◌, ◌≤◌, ℕ, true, Option, Some, None, List, slice_get}
use Rattle.std.specs.List.{AllByRecursion, Contains}
use Rattle.call_table.specs.declared.call.CallNo.{CallNo}
use Rattle.call_table.specs.declared.call.Living.{Living}
use Rattle.call_table.specs.Table.{Call, Name, at, living_name}
use Rattle.call_table.specs.Table as table
use Rattle.client_rules.specs.Client.{Client, calls_of}
use Rattle.service_tl.specs.Results.{is_good}

-- the earlier call has a name of this session number and message number, which is below that of the message behind it
pub record HasName (earlier : Call) (session own number : ℕ) : Type 0 where
  pub name : Name
  pub among : Contains earlier.names name
  pub of_session : name.session ≡ session
  pub of_number : name.message.number ≡ number
  pub below : number < own

-- it is done, and its result begins with neither `rpc_error` nor `rpc_answer_dropped_running`
pub record IsDoneWell (earlier : Call) : Type 0 where
  pub result : List ℕ
  pub done : earlier.state ≡ table.Done result
  pub good : is_good result ≡ true

-- what went in this session under its own number, behind the message of that number or as it is
abbrev pub WentBehind : Call → ℕ → ℕ → Option ℕ → Type 0
WentBehind earlier session own (Some number) = HasName earlier session own number
WentBehind earlier session own None = IsDoneWell earlier

-- So it is with a message that a call went as: it went behind a message of the earlier call in the same session, or as it is
-- where the earlier call is done well.
abbrev pub IsBehind : Call → Name → Type 0
IsBehind earlier name = WentBehind earlier name.session name.message.number name.message.wrap

-- the earlier call is there, and each message that the call went as is behind it
pub record GoesBehind (calls : List Call) (call : Call) (number : CallNo) : Type 0 where
  pub earlier : Call
  pub there : at number calls ≡ Some earlier
  pub names : AllByRecursion (IsBehind earlier) call.names

abbrev pub IsInTurn : List Call → Call → Type 0
IsInTurn calls call = (number : CallNo) → call.after ≡ Some number → GoesBehind calls call number

-- a call that is sent has a living name of the present session, whose number isn't above the last one that was given
abbrev pub LivesIn : ℕ → ℕ → Call → Type 0
LivesIn session last call =
    call.state ≡ table.Sent → (name : Name) × (living_name call ≡ Some name) × (name.session ≡ session) × (name.message.number ≤ last)

-- the calls of a client in a session with this last number
pub record AreInTurn (session last : ℕ) (calls : List Call) : Type 0 where
  pub behind : AllByRecursion (IsInTurn calls) calls
  pub living : AllByRecursion (LivesIn session last) calls

abbrev pub KeepsTurn : Client → Type 0
KeepsTurn client = AreInTurn client.session client.counters.last (calls_of client)

-- ---- calls at a later moment

-- the call went in this session as this message: with its number, and behind which it went
pub record HasMessage (call : Call) (session : ℕ) (message : Living) : Type 0 where
  pub name : Name
  pub among : Contains call.names name
  pub of_session : name.session ≡ session
  pub same : name.message ≡ message

-- it is the same call; all that it ever went as it went as still, and where it was done it is done with that result
pub record IsStill (call later : Call) : Type 0 where
  pub body : later.body ≡ call.body
  pub after : later.after ≡ call.after
  pub names : (name : Name) → Contains call.names name → HasMessage later name.session name.message
  pub done : (result : List ℕ) → call.state ≡ table.Done result → later.state ≡ table.Done result

-- each call stands in its place
abbrev pub Last : List Call → List Call → Type 0
Last calls later = (place : ℕ) (call : Call) → slice_get calls place ≡ Some call → (other : Call) × (slice_get later place ≡ Some other) × IsStill call other
