-- What a packet of a client has: messages as which its calls went, and others that are no calls.
use Rattle.std.specs.Prelude.{◌≡◌, ◌<◌, ◌⊎◌, ⊤, ℕ, None, Some, List, slice_get, IfSome}
use Rattle.std.specs.List.{AllByRecursion, Contains}
use Rattle.service_tl.specs.declared.lists.Message.{Message}
use Rattle.containers.specs.Container.{container_of}
use Rattle.envelope.specs.declared.parts.Envelope.{Envelope}
use Rattle.call_table.specs.Table.{Call, Name}
use Rattle.client_rules.specs.Client.{Asked, Binding, Client}
use Rattle.client_rules.specs.Filling.{body_behind}
use Rattle.client_rules.specs.Flush.{Answer, Nothing, Spent, Sends}
use Rattle.law_client.specs.Clients.{IsShort}
use Rattle.law_client.specs.Sent.{Asks, IsBindingCall}

-- One of these calls went as this message, in the session of this number: its body is the call's, behind the number of an earlier
-- message where it went behind one.
pub record IsOfCall (session : ℕ) (calls : List Call) (number : ℕ) (body : List ℕ) : Type 0 where
  pub place : ℕ
  pub call : Call
  pub name : Name
  pub there : slice_get calls place ≡ Some call
  pub among : Contains call.names name
  pub of_session : name.session ≡ session
  pub of_number : name.message.number ≡ number
  pub goes : body ≡ body_behind name.message.wrap call.body

-- it is that, or asks nothing of the service
abbrev pub IsFrom : ℕ → List Call → ℕ → List ℕ → Type 0
IsFrom session calls number body = IsOfCall session calls number body ⊎ Asks body None

-- several messages in a container, each under a number below its own
pub record IsContainerFrom (calls : List Call) (envelope : Envelope) : Type 0 where
  pub messages : List Message
  pub body : envelope.body ≡ container_of messages
  pub inner : AllByRecursion (λ message. IsFrom envelope.session calls message.number message.body) messages
  pub below : AllByRecursion (λ message. message.number < envelope.number) messages

-- a packet with one message, or with a container
abbrev pub IsPacketFrom : List Call → Envelope → Type 0
IsPacketFrom calls envelope = IsFrom envelope.session calls envelope.number envelope.body ⊎ IsContainerFrom calls envelope

-- what a flush gives
abbrev pub IsAnswerFrom : List Call → Answer → Type 0
IsAnswerFrom calls Nothing = ⊤
IsAnswerFrom calls Spent = ⊤
IsAnswerFrom calls (Sends packet) = IsPacketFrom calls packet.envelope

-- the message that asked for the binding has a binding call's body
abbrev pub IsAskedBy : Binding → Type 0
IsAskedBy (Asked message) = IsBindingCall message.body
IsAskedBy _ = ⊤

-- Its lists of numbers that wait aren't too long to be read, and so it asked for its binding.
pub record IsReady (client : Client) : Type 0 where
  pub short : IsShort client
  pub asked : IfSome client.temporary (λ temporary. IsAskedBy temporary.binding)
