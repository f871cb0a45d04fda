-- What a client gives numbers to: each message that goes, and no number to two of them under one session number
-- (core.telegram.org/mtproto/description, "Message Identifier").
use Rattle.std.specs.Prelude.{◌≡◌, ◌⊎◌, ◌<◌, ◌≤◌, ⊤, ℕ, false, Some, List, [], ◌∷◌, ◌++◌, IfSome}
use Rattle.std.specs.List.{AllByRecursion, Contains}
use Rattle.service_tl.specs.declared.lists.Message.{Message}
use Rattle.containers.specs.Container.{begins_container, container_of}
use Rattle.envelope.specs.declared.parts.Envelope.{Envelope}
use Rattle.call_table.specs.Table.{Call, living_name}
use Rattle.client_rules.specs.Client.{Asked, Binding, Client, at_moment, calls_of}
use Rattle.client_rules.specs.Events.{Event, Flush, Renew, Run, step}
use Rattle.client_rules.specs.Flush.{Answer, Nothing, Spent, Sends, filled, flush, message_behind}
use Rattle.client_rules.specs.Sending.{Setting}
use Rattle.client_rules.specs.Taking.{message_in}

-- ---- what goes

-- no number is that of two messages: those of one number are the same message, as where it goes again
abbrev pub AreOnce : List Message → Type 0
AreOnce given = (one other : Message) → Contains given one → Contains given other → one.number ≡ other.number → one ≡ other

-- the messages of a packet, and then the one in its envelope: a container, or the only message once more
abbrev pub given_by : List Message → Answer → List Message
given_by messages Nothing = []
given_by messages Spent = []
given_by messages (Sends packet) = messages ++ message_in packet.envelope ∷ []

-- those of a flush
abbrev pub gives : {S : Type 0} → Setting S → ℕ → Client → S → List Message
gives setting now client draw = given_by (filled setting (at_moment now client) draw).messages (flush setting now client draw).answer

-- a packet of several messages is a container of them, whose number is above theirs
pub record IsContainerOf (messages : List Message) (envelope : Envelope) : Type 0 where
  pub body : envelope.body ≡ container_of messages
  pub below : AllByRecursion (λ message. message.number < envelope.number) messages

-- a message that is no container
abbrev pub IsPlain : List ℕ → Type 0
IsPlain body = begins_container body ≡ false

-- a packet is its only message, or such a container; no message in it is one
pub record IsMadeOf (messages : List Message) (envelope : Envelope) : Type 0 where
  pub plain : AllByRecursion (λ message. IsPlain message.body) messages
  pub packet : (messages ≡ message_in envelope ∷ []) ⊎ IsContainerOf messages envelope

-- the packet of a flush, under this session number, has all that the flush gives
abbrev pub IsAnswerOf : ℕ → List Message → Answer → Type 0
IsAnswerOf session messages Nothing = ⊤
IsAnswerOf session messages Spent = ⊤
IsAnswerOf session messages (Sends packet) = (packet.envelope.session ≡ session) × IsMadeOf messages packet.envelope

-- ---- under one session number after the other

-- what was given so far: under the present session number, and under each of the former ones
pub record Given : Type 0 where
  pub present : List Message
  pub former : List (List Message)

abbrev pub nothing_given : Given
nothing_given = record { present = []; former = [] }

-- with a renewal another session begins
abbrev pub IsRenewal : Event → Type 0
IsRenewal Renew = ⊤
IsRenewal _ = ⊥

-- after an event of the client
abbrev pub given_after : {S : Type 0} → Setting S → Run S → Event → Given → Given
given_after setting run (Flush now) given = record given { present = given.present ++ gives setting now run.client run.draw }
given_after setting run Renew given = record { present = []; former = given.former ++ given.present ∷ [] }
given_after setting run _ given = given

abbrev pub given_in : {S : Type 0} → Setting S → Run S → List Event → Given → Given
given_in setting run [] given = given
given_in setting run (event ∷ events) given = given_in setting (step setting run event) events (given_after setting run event given)

-- under no session number a number is that of two messages
pub record IsOnce (given : Given) : Type 0 where
  pub present : AreOnce given.present
  pub former : AllByRecursion AreOnce given.former

-- ---- what a client keeps of it

-- a call is no container, and the message under which it is outstanding was given
abbrev pub LivesAmong : List Message → Call → Type 0
LivesAmong given call = IsPlain call.body × ((message : Message) → message_behind call.body (living_name call) ≡ Some message → Contains given message)

-- so is the one that asked for a binding
abbrev pub IsAskedAmong : List Message → Binding → Type 0
IsAskedAmong given (Asked message) = IsPlain message.body × Contains given message
IsAskedAmong given _ = ⊤

-- These are the messages that a client gave numbers to under its present session number: none is above its last number, and
-- those that may go again are among them.
pub record HasGiven (given : List Message) (client : Client) : Type 0 where
  pub once : AreOnce given
  pub within : (message : Message) → Contains given message → message.number ≤ client.counters.last
  pub living : AllByRecursion (LivesAmong given) (calls_of client)
  pub asked : IfSome client.temporary (λ temporary. IsAskedAmong given temporary.binding)
