-- What a packet from the server changes (core.telegram.org/mtproto/service_messages,
-- core.telegram.org/mtproto/service_messages_about_messages).
use Rattle.std.specs.Prelude.{ℕ, ◌==◌, ◌&&◌, ◌||◌, not, nat_lt, bit_and, Bool, true, false, if◌then◌else◌, Option, Some, None, option_map, List, [], ◌∷◌, ◌++◌, fold, length, replicate, Result, Ok, Err}
use Rattle.std.specs.List.{list_any, zip}
use Rattle.tl_codec.specs.Standard.{bool_true}
use Rattle.msg_ids.specs.Counters.{is_odd}
use Rattle.service_tl.specs.declared.lists.Message.{Message}
use Rattle.service_tl.specs.declared.item.Item.{Item}
use Rattle.service_tl.specs.declared.item.Item.TheVariants.{RpcResult, RpcError, NewSessionCreated, MsgsStateReq, MsgsStateInfo, MsgsAllInfo, MsgResendReq, MsgDetailedInfo, MsgNewDetailedInfo, BadMsgNotification, BadServerSalt}
use Rattle.service_tl.specs.ItemOf.{item_of}
use Rattle.containers.specs.declared.fault.ContainerFault.{ContainerFault}
use Rattle.containers.specs.Container.{begins_container}
use Rattle.containers.specs.Parts.{parts_of}
use Rattle.envelope.specs.declared.parts.Envelope.{Envelope}
use Rattle.call_table.specs.declared.call.CallNo.{CallNo}
use Rattle.call_table.specs.declared.call.Fate.{Fate}
use Rattle.call_table.specs.declared.call.Fate.TheVariants as fate
use Rattle.call_table.specs.declared.call.Cause.TheVariants as cause
use Rattle.call_table.specs.Table.{acknowledged, inner_of, owner, settled}
use Rattle.client_rules.specs.Client.{Client, Binding, Needed, Asked, Held, Bound, Refused, Temporary, StateRequest, at_moment, calls_of, has_sent, with_binding, with_call}
use Rattle.client_rules.specs.Asking.{alone, begins}
use Rattle.client_rules.specs.Filling.{numbers_max}
use Rattle.client_rules.specs.Learning.{with_clock, learn}

-- ---- a call, or the binding, by its number

abbrev pub becomes : CallNo → Fate → Client → Client
becomes call fate client = with_call call (settled fate) client

-- the binding was asked for by a message of this number
abbrev pub is_asked_by : ℕ → Binding → Bool
is_asked_by number (Asked message) = message.number == number
is_asked_by number _ = false

abbrev pub has_asked : ℕ → Option Temporary → Bool
has_asked number None = false
has_asked number (Some temporary) = is_asked_by number temporary.binding

-- ---- results (core.telegram.org/mtproto/service_messages, "Response to an RPC query")

abbrev pub binding_error : Item → ℕ
binding_error (RpcError code text) = code
binding_error _ = 0

-- what becomes of a binding by its result
abbrev pub binding_answered : List ℕ → Binding
binding_answered result =
    if begins bool_true result && (length result == 4) then Bound else Refused (binding_error (item_of result))

abbrev pub answered_by : Option CallNo → Bool → List ℕ → Client → Client
answered_by (Some call) is_binding result client = becomes call (fate.Done result) client
answered_by None true result client = with_binding (binding_answered result) client
answered_by None false result client = client

-- ---- notices (core.telegram.org/mtproto/service_messages_about_messages, "Notice of Ignored Error Message")

-- a notice: the number that it is about, its code, and the right salt where it has one
pub record Notice : Type 0 where
  pub about : ℕ
  pub code : ℕ
  pub salt : Option ℕ

-- the clock is taken over by 16 and 17, and a salt that the notice has
abbrev pub with_notice_clock : ℕ → ℕ → Client → Client
with_notice_clock outer code client = if code == 16 || code == 17 then with_clock outer client else client

abbrev pub with_notice_salt : Option ℕ → Client → Client
with_notice_salt None client = client
with_notice_salt (Some salt) client = record client { salt = salt }

abbrev pub takes_over : ℕ → Notice → Client → Client
takes_over outer notice client = with_notice_salt notice.salt (with_notice_clock outer notice.code client)

-- what becomes of a call
abbrev pub fate_noticed : ℕ → Fate
fate_noticed code =
    if code == 16 || code == 48 then fate.Queue
    else if code == 17 then fate.Hold
    else if code == 20 then fate.Unknown cause.Forgotten
    else fate.Refused code

-- what becomes of the binding
abbrev pub binding_noticed : ℕ → Binding
binding_noticed code =
    if code == 16 || code == 48 || code == 20 then Needed
    else if code == 17 then Held
    else Refused code

-- a call that is outstanding under this number is to be sent again, alone
abbrev pub alone_call : Option CallNo → Client → Client
alone_call None client = client
alone_call (Some call) client = with_call call alone client

abbrev pub alone_number : Client → ℕ → Client
alone_number client number = alone_call (owner number (calls_of client)) client

-- the binding too, where it was asked for under one of these
abbrev pub alone_among : List ℕ → Temporary → Temporary
alone_among numbers temporary =
    if list_any (λ number. is_asked_by number temporary.binding) numbers
    then record temporary { is_alone = true }
    else temporary

-- what stood in a packet that was refused goes again
abbrev pub packet_noticed : List ℕ → Client → Client
packet_noticed numbers client =
    fold alone_number (record client { temporary = option_map (alone_among numbers) client.temporary }) numbers

-- about an outstanding call, the binding, a remembered packet, or none of these
abbrev pub noticed_by : Option CallNo → Bool → Option (List ℕ) → ℕ → Notice → Client → Client
noticed_by (Some call) is_binding packet outer notice client =
    becomes call (fate_noticed notice.code) (takes_over outer notice client)
noticed_by None true packet outer notice client =
    with_binding (binding_noticed notice.code) (takes_over outer notice client)
noticed_by None false (Some numbers) outer notice client = packet_noticed numbers (takes_over outer notice client)
noticed_by None false None outer notice client = client

abbrev pub noticed : ℕ → Notice → Client → Client
noticed outer notice client =
    noticed_by (owner notice.about (calls_of client)) (has_asked notice.about client.temporary)
    (inner_of notice.about client.table.packets) outer notice client

-- ---- states (the same page, "Informational Message regarding Status of Messages")

-- 32: "the message is being processed, or processing has already been completed"; 64: a response was generated
abbrev pub goes_again : ℕ → Bool
goes_again byte = (bit_and byte 32 == 0) || not (bit_and byte 64 == 0)

abbrev pub told_state : Client → ℕ × ℕ → Client
told_state client (number, byte) = if goes_again byte then alone_number client number else client

-- a byte for each number
abbrev pub told_states : List ℕ → List ℕ → Client → Client
told_states numbers info client =
    if length info == length numbers then fold told_state client (zip numbers info) else client

-- the states of the last request
abbrev pub told_of : Option StateRequest → ℕ → List ℕ → Client → Client
told_of None request info client = client
told_of (Some asked) request info client =
    if asked.number == request then told_states asked.numbers info client else client

-- ---- what the server asks for

-- it asks how these messages fared: nothing is known of them (1), which takes the place of what waited before
abbrev pub asked_states : ℕ → List ℕ → Client → Client
asked_states request numbers client =
    record client {
      waiting = record client.waiting { told = Some (record { request = request; info = replicate (length numbers) 1 }) };
    }

-- an answer that is there is asked for
abbrev pub asks_answer : ℕ → Client → Client
asks_answer number client =
    if nat_lt (length client.waiting.resent) numbers_max
    then record client { waiting = record client.waiting { resent = client.waiting.resent ++ number ∷ [] } }
    else client

-- ---- the rows

-- an item of the message with this number, in a packet with this outer number
abbrev pub row : ℕ → ℕ → Item → Client → Client
row outer number (NewSessionCreated first unique salt) client = learn outer unique salt client
row outer number (RpcResult about result) client =
    answered_by (owner about (calls_of client)) (has_asked about client.temporary) result client
row outer number (BadMsgNotification about seq code) client =
    noticed outer (record { about = about; code = code; salt = None }) client
row outer number (BadServerSalt about seq code salt) client =
    noticed outer (record { about = about; code = 48; salt = Some salt }) client
row outer number (MsgsStateInfo request info) client = told_of client.asked request info client
row outer number (MsgsAllInfo numbers info) client = told_states numbers info client
row outer number (MsgResendReq numbers) client = fold alone_number client numbers
row outer number (MsgsStateReq numbers) client = asked_states number numbers client
row outer number (MsgDetailedInfo about answer bytes status) client = asks_answer answer client
row outer number (MsgNewDetailedInfo answer bytes status) client = asks_answer answer client
row outer number _ client = client

-- a message with an odd seq is acknowledged (core.telegram.org/mtproto/service_messages_about_messages, "Acknowledgment of
-- Receipt")
abbrev pub acknowledges : Message → Client → Client
acknowledges message client =
    if is_odd message.seq
    then record client { table = record client.table { acks = acknowledged message.number client.table.acks } }
    else client

-- an ended client takes nothing more
abbrev pub takes_message : ℕ → Client → Message → Client
takes_message outer client message =
    if client.has_ended then client else row outer message.number (item_of message.body) (acknowledges message client)

-- ---- the packet

-- the message in the envelope, and those inside it where it is a container; none where it isn't a lawful one
abbrev pub behind : Message → Result (List Message) ContainerFault → List Message
behind message (Ok parts) = message ∷ parts
behind message (Err fault) = []

abbrev pub messages_of : Message → List Message
messages_of message =
    if begins_container message.body then behind message (parts_of message.number message.body) else message ∷ []

abbrev pub message_in : Envelope → Message
message_in envelope = record { number = envelope.number; seq = envelope.seq; body = envelope.body }

-- it came under the client's key and session number, with an odd number
abbrev pub is_for : Client → Envelope → Bool
is_for client envelope =
    (envelope.key == client.key) && (envelope.session == client.session) && is_odd envelope.number

-- a wish to ask for states ends where no call is sent any more
abbrev pub without_idle_wish : Client → Client
without_idle_wish client =
    record client { waiting = record client.waiting { states = has_sent client && client.waiting.states } }

-- The messages of a packet that is looked at are taken in order. Of any other only the moment counts.
abbrev pub take : ℕ → Envelope → Client → Client
take now envelope client =
    let ready = at_moment now client in
    if is_for client envelope
    then without_idle_wish (fold (takes_message envelope.number) ready (messages_of (message_in envelope)))
    else ready
