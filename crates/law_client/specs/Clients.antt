-- How a client of the definitions stands in a world of the law on moves. A client there has a number, and its calls have
-- their places from 0.
use Rattle.std.specs.Prelude.{◌≡◌, ◌≢◌, ◌≤◌, ⊤, false, ℕ, Option, Some, None, IfSome, List, [], ◌∷◌, length, reverse, slice_get}
use Rattle.std.specs.List.{AllByRecursion}
use Rattle.tl_codec.specs.Standard.{longs_max}
use Rattle.law_moves.specs.Table as moves
use Rattle.law_moves.specs.World.{World, no_call, no_client}
use Rattle.law_moves.specs.After.{salts_of}
use Rattle.law_moves.specs.Lawful.{WasNoCall}
use Rattle.call_table.specs.declared.call.Cause.{Cause}
use Rattle.call_table.specs.declared.call.Cause.TheVariants as cause
use Rattle.call_table.specs.Table.{Call, Name, State}
use Rattle.call_table.specs.Table as table
use Rattle.client_rules.specs.Client.{Client, Binding, Asked, calls_of}
use Rattle.client_rules.specs.Asking.{begins_service}
use Rattle.law_client.specs.Sent.{IsBindingCall}

-- ---- states

abbrev pub cause_there : Cause → moves.Cause
cause_there cause.Session = moves.Cause.ServerSessionLost
cause_there cause.Renewed = moves.Cause.Renewed
cause_there cause.Ended = moves.Cause.Ended
cause_there cause.Forgotten = moves.Cause.Forgotten

abbrev pub state_there : State → moves.State
state_there table.Queued = moves.State.Queued
state_there table.Sent = moves.State.Sent
state_there table.Held = moves.State.Held
state_there (table.Done reply) = moves.State.Done reply
state_there (table.Refused code) = moves.State.Refused code
state_there (table.Unknown cause) = moves.State.Unknown (cause_there cause)

-- ---- a client's own parts

abbrev pub client_there : Client → moves.Client
client_there client =
    record {
      present = client.session;
      former = reverse client.former;
      salt = client.salt;
      learnt = reverse client.learnt;
      ended = client.has_ended;
    }

-- a number of the client's present session is one that it gave
abbrev pub IsGivenBy : Client → ℕ → ℕ → Type 0
IsGivenBy client session number = session ≡ client.session → number ≤ client.counters.last

-- ---- names and calls

-- the name is that one: it was sent under the same session number and message number, and under the same salts, the last
-- one first
pub record IsNameThere (ups : List moves.Message) (name : Name) (there : moves.Name) : Type 0 where
  pub session : there.session ≡ name.session
  pub number : there.number ≡ name.message.number
  pub salts : salts_of ups there ≡ name.salts

abbrev pub AreNamesThere : List moves.Message → List Name → List moves.Name → Type 0
AreNamesThere ups [] [] = ⊤
AreNamesThere ups [] (there ∷ others) = ⊥
AreNamesThere ups (name ∷ names) [] = ⊥
AreNamesThere ups (name ∷ names) (there ∷ others) = IsNameThere ups name there × AreNamesThere ups names others

-- a call that is sent has a living name, which is one of this session
abbrev pub LivesIn : ℕ → State → List Name → Type 0
LivesIn session table.Sent [] = ⊥
LivesIn session table.Sent (name ∷ names) = name.session ≡ session
LivesIn session _ names = ⊤

-- the call stands there, with its body, its state and its names; no service constructor begins its body
pub record IsCallThere (client : Client) (ups : List moves.Message) (call : Call) (there : moves.Call) : Type 0 where
  pub body : there.body ≡ call.body
  pub state : there.state ≡ state_there call.state
  pub names : AreNamesThere ups call.names there.names
  pub living : LivesIn client.session call.state call.names
  pub asks : begins_service call.body ≡ false

-- what stands in the place of a call, where there is one
abbrev pub StandsThere : Client → List moves.Message → Option Call → moves.Call → Type 0
StandsThere client ups None there = there ≡ no_call
StandsThere client ups (Some call) there = IsCallThere client ups call there

-- ---- a client

-- the message that asked for the client's binding is no call, and has a binding call's body
abbrev pub IsAskedThere : List moves.Message → Client → Binding → Type 0
IsAskedThere ups client (Asked message) = WasNoCall ups client.session message.number × IsBindingCall message.body
IsAskedThere ups client _ = ⊤

-- its lists of numbers that wait aren't too long to be read
pub record IsShort (client : Client) : Type 0 where
  pub acks : length client.table.acks ≤ longs_max
  pub resent : length client.waiting.resent ≤ longs_max

-- The client of this number is this one. All that it gave under its present session number is at most its last number.
pub record StandsAs (w : World) (number : ℕ) (client : Client) : Type 0 where
  pub made : client.session ≢ 0
  pub parts : w.clients number ≡ client_there client
  pub submitted : w.submitted number ≡ length (calls_of client)
  pub calls : (place : ℕ) → StandsThere client w.ups (slice_get (calls_of client) place) (w.calls (moves.call_at number place))
  pub given : AllByRecursion (λ message. IsGivenBy client message.session message.number) w.ups
  pub asked : IfSome client.temporary (λ temporary. IsAskedThere w.ups client temporary.binding)
  pub short : IsShort client

-- no client has this number yet
pub record IsNobody (w : World) (number : ℕ) : Type 0 where
  pub parts : w.clients number ≡ no_client
  pub submitted : w.submitted number ≡ 0
  pub calls : (place : ℕ) → w.calls (moves.call_at number place) ≡ no_call
