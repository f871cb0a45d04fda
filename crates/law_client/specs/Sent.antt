-- What a packet from a client is to the law on moves: a message for each message in it.
use Rattle.std.specs.Prelude.{◌≡◌, ◌<◌, ◌≤◌, ⊤, ◌⊎◌, ℕ, false, Option, Some, None, List, length}
use Rattle.std.specs.List.{AllByRecursion, Contains}
use Rattle.tl_codec.specs.Standard.{longs_max}
use Rattle.service_tl.specs.declared.lists.Message.{Message}
use Rattle.service_tl.specs.declared.item.Item.{Item}
use Rattle.service_tl.specs.declared.item.Item.TheVariants.{RpcDropAnswer, GetFutureSalts, Ping, DestroySession, MsgsAck, MsgsStateReq, MsgsStateInfo, MsgResendReq, AuthBindTempAuthKey}
use Rattle.service_tl.specs.Items.{spelling_of}
use Rattle.containers.specs.Container.{container_of}
use Rattle.envelope.specs.declared.parts.Envelope.{Envelope}
use Rattle.client_rules.specs.Asking.{begins_service}
use Rattle.client_rules.specs.Filling.{body_behind}
use Rattle.client_rules.specs.Flush.{Answer, Nothing, Spent, Sends}
use Rattle.client_rules.specs.Taking.{message_in}
use Rattle.law_moves.specs.Table as moves

-- ---- bodies

-- the body is that of a binding call
abbrev pub IsBindingCall : List ℕ → Type 0
IsBindingCall body = (perm nonce expires : ℕ) × (message : List ℕ) × (body ≡ spelling_of (AuthBindTempAuthKey perm nonce expires message))

-- an item that a client says beside its calls: its lists of numbers aren't too long to be read
abbrev pub IsSaidAside : Item → Type 0
IsSaidAside (MsgsAck numbers) = length numbers ≤ longs_max
IsSaidAside (MsgsStateInfo request info) = ⊤
IsSaidAside (MsgResendReq numbers) = length numbers ≤ longs_max
IsSaidAside (MsgsStateReq numbers) = length numbers ≤ longs_max
IsSaidAside (Ping id) = ⊤
IsSaidAside (GetFutureSalts count) = ⊤
IsSaidAside (DestroySession session) = ⊤
IsSaidAside (AuthBindTempAuthKey perm nonce expires message) = ⊤
IsSaidAside (RpcDropAnswer call) = ⊤
IsSaidAside _ = ⊥

-- a body asks this of the service: it is the call's own, which no service constructor begins, or stands behind the number
-- of an earlier message; or it asks nothing, and spells such an item
abbrev pub Asks : List ℕ → Option (List ℕ) → Type 0
Asks body (Some query) = (begins_service query ≡ false) × (wrap : Option ℕ) × (body ≡ body_behind wrap query)
Asks body None = (item : Item) × (body ≡ spelling_of item) × IsSaidAside item

-- ---- messages

-- a message was sent under this session number, salt and number, and was this call, or none
pub record WasSent (ups : List moves.Message) (session salt number : ℕ) (call : Option moves.Text) : Type 0 where
  pub up : moves.Message
  pub there : Contains ups up
  pub under : up.session ≡ session
  pub salted : up.salt ≡ salt
  pub numbered : up.number ≡ number
  pub is : up.call ≡ call

-- this message was sent so: what it was there is what its body asks
abbrev pub IsSent : List moves.Message → ℕ → ℕ → Message → Type 0
IsSent ups session salt message = (call : Option (List ℕ)) × Asks message.body call × WasSent ups session salt message.number call

-- ---- packets

-- a packet with a container: each message inside was sent, under a number below the container's, and the container is a
-- message that is no call
pub record IsContainerSent (ups : List moves.Message) (envelope : Envelope) : Type 0 where
  pub messages : List Message
  pub body : envelope.body ≡ container_of messages
  pub inner : AllByRecursion (IsSent ups envelope.session envelope.salt) messages
  pub below : AllByRecursion (λ message. message.number < envelope.number) messages
  pub outer : WasSent ups envelope.session envelope.salt envelope.number None

-- a packet with one message, or with a container
abbrev pub IsPacketSent : List moves.Message → Envelope → Type 0
IsPacketSent ups envelope = IsSent ups envelope.session envelope.salt (message_in envelope) ⊎ IsContainerSent ups envelope

-- what a flush gives
abbrev pub IsAnswerSent : List moves.Message → Answer → Type 0
IsAnswerSent ups Nothing = ⊤
IsAnswerSent ups Spent = ⊤
IsAnswerSent ups (Sends packet) = IsPacketSent ups packet.envelope
