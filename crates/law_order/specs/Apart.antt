-- Notice 19, "container msg_id is the same as msg_id of a previously received message", and numbers that are a container's
-- or another message's, and never both (core.telegram.org/mtproto/service_messages_about_messages, "Notice of Ignored Error
-- Message").
use Rattle.std.specs.Prelude.{◌≡◌, ◌≢◌, ◌<◌, ◌^◌, ⊤, ℕ, Bool, false, Some, List}
use Rattle.std.specs.List.{AllByRecursion}
use Rattle.service_tl.specs.declared.item.Item.{Item}
use Rattle.service_tl.specs.declared.item.Item.TheVariants.{BadMsgNotification, MsgContainer}
use Rattle.service_tl.specs.declared.lists.Message.{Message}
use Rattle.service_tl.specs.Items.{spelling_of}
use Rattle.containers.specs.Container.{begins_container}
use Rattle.id_window.specs.History.{FirstJudgement, Outcome, Refused, AcceptedContainer, AcceptedCall, AcceptedOther}
use Rattle.inbox.specs.Refusals.{Way}
use Rattle.packing.specs.Packing.{packed}
use Rattle.server_rules.specs.Server.{Name, Session, name_of}
use Rattle.server_rules.specs.Event.{Envelope, Sent}
use Rattle.server_rules.specs.Events.{Event, Packet}
use Rattle.server_rules.specs.Answer.{message_in, messages_judged, name_in}

-- ---- what comes

-- Of each number under a name: it is a container's, or no container's.
abbrev pub Kinds : Type 0
Kinds = Name → ℕ → Bool

-- a message is what is told of its number
abbrev pub IsOfKind : Kinds → Name → Message → Type 0
IsOfKind kinds name message = begins_container message.body ≡ kinds name message.number

-- so are all messages that may be judged of a packet
abbrev pub IsPacketOf : Kinds → Envelope → Type 0
IsPacketOf kinds envelope =
    (way : Way) (session : Session) → AllByRecursion (IsOfKind kinds (name_in envelope)) (messages_judged way session (message_in envelope))

abbrev pub IsEventOf : Kinds → Event → Type 0
IsEventOf kinds (Packet moment (Some envelope)) = IsPacketOf kinds envelope
IsEventOf kinds _ = ⊤

-- ---- what is said

-- a code of a notice other than 19, which fits its place
abbrev pub IsOtherCode : ℕ → Type 0
IsOtherCode code = (code ≢ 19) × (code < 2 ^ 32)

-- no notice 19, and no container, which may hold one
abbrev pub IsQuietItem : Item → Type 0
IsQuietItem (BadMsgNotification about seq code) = IsOtherCode code
IsQuietItem (MsgContainer messages) = ⊥
IsQuietItem _ = ⊤

-- the message spells such an item
pub record IsQuiet (message : Message) : Type 0 where
  pub item : Item
  pub body : message.body ≡ spelling_of item
  pub quiet : IsQuietItem item

-- a packet's body has such messages alone
pub record IsQuietBody (body : List ℕ) : Type 0 where
  pub group : List Message
  pub packet : body ≡ packed group
  pub quiet : AllByRecursion IsQuiet group

abbrev pub AreQuiet : List Sent → Type 0
AreQuiet packets = AllByRecursion (λ sent. IsQuietBody sent.envelope.body) packets

-- ---- what is kept

-- what became of a number: it was noticed with another code, or what it was accepted as is what is told of it
abbrev pub IsOutcomeOf : Kinds → Name → ℕ → Outcome → Type 0
IsOutcomeOf kinds name number (Refused code) = IsOtherCode code
IsOutcomeOf kinds name number AcceptedContainer = ⊤
IsOutcomeOf kinds name number AcceptedCall = kinds name number ≡ false
IsOutcomeOf kinds name number AcceptedOther = kinds name number ≡ false

abbrev pub IsJudgementOf : Kinds → Name → FirstJudgement → Type 0
IsJudgementOf kinds name judgement = IsOutcomeOf kinds name judgement.number judgement.outcome

abbrev pub IsSessionOf : Kinds → Session → Type 0
IsSessionOf kinds session = AllByRecursion (IsJudgementOf kinds (name_of session)) session.history

abbrev pub AreSessionsOf : Kinds → List Session → Type 0
AreSessionsOf kinds sessions = AllByRecursion (IsSessionOf kinds) sessions
