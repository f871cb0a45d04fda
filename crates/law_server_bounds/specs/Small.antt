-- The numbers that a server keeps and says fit their places, and its packets are whole
-- (core.telegram.org/mtproto/description, "Encrypted Message"; core.telegram.org/mtproto/service_messages).
use Rattle.std.specs.Prelude.{length, ◌≡◌, ◌<◌, ◌≤◌, ◌+◌, ◌*◌, ◌^◌, ⊤, true, ℕ, Some, List}
use Rattle.std.specs.List.{AllByRecursion}
use Rattle.octets.specs.Bytes.{IsBytes}
use Rattle.msg_ids.specs.Counters.{Counters}
use Rattle.salt_line.specs.Rows.{Row}
use Rattle.service_tl.specs.declared.item.Item.{Item}
use Rattle.service_tl.specs.declared.item.Item.TheVariants.{RpcResult, FutureSalts, Pong, DestroySessionOk, DestroySessionNone, NewSessionCreated, MsgsAck, MsgsStateInfo, BadMsgNotification, BadServerSalt}
use Rattle.service_tl.specs.declared.lists.Message.{Message}
use Rattle.service_tl.specs.Items.{spelling_of}
use Rattle.service_tl.specs.Words.{IsWords}
use Rattle.containers.specs.Container.{IsContainer, begins_container}
use Rattle.packing.specs.Packing.{packed}
use Rattle.id_window.specs.History.{FirstJudgement, Outcome, Refused}
use Rattle.regs_service.specs.Served.{IsReply, Step}
use Rattle.waits.specs.declared.job.Unfinished.{Unfinished}
use Rattle.waits.specs.Jobs.{Queue}
use Rattle.server_rules.specs.Server.{Name, Reply, Session, name_of}
use Rattle.server_rules.specs.Event.{Envelope, Owed, Sent, Setting, State}
use Rattle.server_rules.specs.Events.{Event, Packet}

-- ---- what a server says

-- the content of a result: whole words of 4 bytes, and short
abbrev pub IsContent : List ℕ → Type 0
IsContent content = IsReply content × IsBytes content

-- An item that a server says: of those that matter to a client's calls, numbers have 64 bits and a notice's code 32; and its
-- lists and texts are short.
abbrev pub IsSmallItem : Item → Type 0
IsSmallItem (RpcResult call content) = (call < 2 ^ 64) × IsContent content
IsSmallItem (NewSessionCreated first unique salt) = (unique < 2 ^ 64) × (salt < 2 ^ 64)
IsSmallItem (BadMsgNotification number seq code) = (number < 2 ^ 64) × (code < 2 ^ 32)
IsSmallItem (BadServerSalt number seq code salt) = (number < 2 ^ 64) × (salt < 2 ^ 64)
IsSmallItem (MsgsAck numbers) = length numbers ≤ 8192
IsSmallItem (Pong number ping) = ⊤
IsSmallItem (FutureSalts number now salts) = length salts ≤ 64
IsSmallItem (MsgsStateInfo number info) = (length info ≤ 8192) × IsBytes info
IsSmallItem (DestroySessionOk number) = ⊤
IsSmallItem (DestroySessionNone number) = ⊤
IsSmallItem _ = ⊥

-- the message spells such an item
pub record IsSmallMessage (message : Message) : Type 0 where
  pub item : Item
  pub body : message.body ≡ spelling_of item
  pub small : IsSmallItem item

-- a message has a number and a seq that were given before the next ones of these counters
abbrev pub IsGivenBy : Counters → ℕ → ℕ → Type 0
IsGivenBy counters number seq = (number < counters.last + 4) × (seq ≤ 2 * counters.content_messages)

-- ---- what a server keeps

abbrev pub IsSmallRow : Row → Type 0
IsSmallRow row = row.word < 2 ^ 64

-- the code of a refusal has 32 bits
abbrev pub IsSmallOutcome : Outcome → Type 0
IsSmallOutcome (Refused code) = code < 2 ^ 32
IsSmallOutcome _ = ⊤

abbrev pub IsSmallJudgement : FirstJudgement → Type 0
IsSmallJudgement judgement = (judgement.number < 2 ^ 64) × IsSmallOutcome judgement.outcome

-- a reply of a session with these counters
pub record IsSmallReply (counters : Counters) (reply : Reply) : Type 0 where
  pub call : reply.call < 2 ^ 64
  pub content : IsContent reply.content
  pub given : IsGivenBy counters reply.number reply.seq

pub record IsSmallSession (session : Session) : Type 0 where
  pub key : session.key < 2 ^ 64
  pub number : session.number < 2 ^ 64
  pub unique : session.unique < 2 ^ 64
  pub salts : AllByRecursion IsSmallRow session.salts.rows
  pub history : AllByRecursion IsSmallJudgement session.history
  pub replies : AllByRecursion (IsSmallReply session.counters) session.replies

abbrev pub IsSmallJob : Unfinished → Type 0
IsSmallJob one = one.job.number < 2 ^ 64

-- the sessions and jobs of a server
pub record AreSmall (all : List Session) (queue : Queue) : Type 0 where
  pub sessions : AllByRecursion IsSmallSession all
  pub jobs : AllByRecursion IsSmallJob queue

-- ---- within an event

-- what is owed to the session of a name was given its number before the next of these counters
abbrev pub IsGivenTo : Name → Counters → Owed → Type 0
IsGivenTo name counters one = one.name ≡ name → IsGivenBy counters one.message.number one.message.seq

abbrev pub AreGivenTo : List Owed → Session → Type 0
AreGivenTo owed session = AllByRecursion (IsGivenTo (name_of session) session.counters) owed

abbrev pub IsSmallOwed : Owed → Type 0
IsSmallOwed one = IsSmallMessage one.message

-- what an event has done so far: the sessions and jobs are such, and so is what is owed
pub record IsSmallState {S : Type 0} (state : State S) : Type 0 where
  pub kept : AreSmall state.sessions state.jobs
  pub owed : AllByRecursion IsSmallOwed state.owed
  pub given : AllByRecursion (AreGivenTo state.owed) state.sessions

-- ---- packets

-- A packet with these messages: all but its number and seq are such as an envelope has, and its body isn't longer than one
-- that is sealed. Where the number and the seq fit their places too, and the body begins as a container, it is a lawful one
-- of the packet's number.
pub record IsWhole (envelope : Envelope) : Type 0 where
  pub group : List Message
  pub body : envelope.body ≡ packed group
  pub messages : AllByRecursion IsSmallMessage group
  pub key : envelope.key < 2 ^ 64
  pub salt : envelope.salt < 2 ^ 64
  pub session : envelope.session < 2 ^ 64
  pub bytes : IsBytes envelope.body
  pub words : IsWords envelope.body
  pub short : length envelope.body ≤ 1044480
  pub whole : envelope.number < 2 ^ 64 → envelope.seq < 2 ^ 32 → begins_container envelope.body ≡ true → IsContainer envelope.number group envelope.body

abbrev pub IsWholeSent : Sent → Type 0
IsWholeSent sent = IsWhole sent.envelope

-- ---- what comes from outside

-- words that are drawn have 64 bits
abbrev pub DrawsWords : {S : Type 0} → Setting S → Type 0
DrawsWords {S} setting = (draw : S) → (setting.step draw).0 < 2 ^ 64

-- replies of the service are whole words, and short
abbrev pub GivesReplies : {V : Type 0} → Step V → Type 0
GivesReplies {V} serve = (service : V) (request : List ℕ) → IsContent (serve service request).0

-- an envelope that came has numbers of 64 bits, and its body is bytes
pub record IsSmallEnvelope (envelope : Envelope) : Type 0 where
  pub key : envelope.key < 2 ^ 64
  pub session : envelope.session < 2 ^ 64
  pub number : envelope.number < 2 ^ 64
  pub bytes : IsBytes envelope.body

abbrev pub HasSmallEnvelope : Event → Type 0
HasSmallEnvelope (Packet moment (Some envelope)) = IsSmallEnvelope envelope
HasSmallEnvelope _ = ⊤
