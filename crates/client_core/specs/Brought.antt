-- What a message of the server's brings to a client, and what that changes: scaffolding, and no promise. It is what the
-- rows of a packet say, without what they don't look at.
use Rattle.std.specs.Prelude.{ℕ, ◌≤◌, ◌==◌, ◌&&◌, if◌then◌else◌, Bool, true, false, Option, Some, None, List, fold, length, replicate}
use Rattle.tl_codec.specs.Standard.{bool_true, longs_max}
use Rattle.service_tl.specs.Codes.{salt_code}
use Rattle.service_tl.specs.declared.lists.Message.{Message}
use Rattle.service_tl.specs.declared.item.Item.{Item}
use Rattle.service_tl.specs.declared.item.Item.TheVariants.{RpcResult, NewSessionCreated, MsgsStateReq, MsgsStateInfo, MsgsAllInfo, MsgResendReq, MsgDetailedInfo, MsgNewDetailedInfo, BadMsgNotification, BadServerSalt}
use Rattle.service_tl.specs.ItemOf.{item_of}
use Rattle.call_table.specs.declared.call.CallNo.{CallNo}
use Rattle.call_table.specs.declared.call.Fate.TheVariants as fate
use Rattle.call_table.specs.Table.{Table, acknowledged, owner}
use Rattle.client_rules.specs.Client.{Client, StateRequest, Binding, Bound, Refused, calls_of, with_binding}
use Rattle.client_rules.specs.Asking.{begins}
use Rattle.client_rules.specs.Learning.{learn}
use Rattle.client_rules.specs.Taking.{alone_number, asks_answer, becomes, binding_error, has_asked, noticed, told_of, told_states}
use Rattle.msg_ids.specs.Counters.{is_odd}
use Rattle.client_calls.specs.Marks.{table_states}
use Rattle.client_core.specs.declared.brought.Brought.{Brought}
use Rattle.client_core.specs.declared.brought.Brought.TheVariants as brought
use Rattle.client_core.specs.declared.brought.Incoming.{Incoming}

-- ---- what it brings, by kinds of items

abbrev pub wish_of : Item → Brought
wish_of (MsgsStateReq numbers) = brought.Asks (replicate (length numbers) 1)
wish_of (MsgDetailedInfo about answer bytes status) = brought.Waits answer
wish_of (MsgNewDetailedInfo answer bytes status) = brought.Waits answer
wish_of _ = brought.Nothing

abbrev pub states_of : Item → Brought
states_of (MsgsStateInfo request info) = brought.Told request info
states_of (MsgsAllInfo numbers info) = brought.Fared numbers info
states_of (MsgResendReq numbers) = brought.Again numbers
states_of item = wish_of item

abbrev pub notice_of : Item → Brought
notice_of (BadMsgNotification about seq code) = brought.Notice about code None
notice_of (BadServerSalt about seq code salt) = brought.Notice about salt_code (Some salt)
notice_of item = states_of item

abbrev pub brought_of : Item → Brought
brought_of (NewSessionCreated first unique salt) = brought.Session unique salt
brought_of (RpcResult about result) = brought.Answer about result (binding_error (item_of result))
brought_of item = notice_of item

abbrev pub lesson_of : Message → Incoming
lesson_of message = record { number = message.number; seq = message.seq; brought = brought_of (item_of message.body) }

-- the states that are to be told can be sent: there are as many as a list may have
abbrev pub IsFit : Brought → Type 0
IsFit (brought.Asks info) = length info ≤ longs_max
IsFit _ = Unit {0}

-- ---- what that changes

abbrev pub binding_by : List ℕ → ℕ → Binding
binding_by result code = if begins bool_true result && (length result == 4) then Bound else Refused code

abbrev pub answered_as : Option CallNo → Bool → List ℕ → ℕ → Client → Client
answered_as (Some call) is_binding result code client = becomes call (fate.Done result) client
answered_as None true result code client = with_binding (binding_by result code) client
answered_as None false result code client = client

abbrev pub answered : ℕ → List ℕ → ℕ → Client → Client
answered about result code client = answered_as (owner about (calls_of client)) (has_asked about client.temporary) result code client

-- these states are to be told, in place of what waited before
abbrev pub tells : ℕ → List ℕ → Client → Client
tells request info client = record client { waiting = record client.waiting { told = Some (record { request = request; info = info }) } }

-- where it tells states or asks for something
abbrev pub wished : ℕ → Brought → Client → Client
wished number (brought.Told request info) client = told_of client.asked request info client
wished number (brought.Fared numbers info) client = told_states numbers info client
wished number (brought.Again numbers) client = fold alone_number client numbers
wished number (brought.Asks info) client = tells number info client
wished number (brought.Waits answer) client = asks_answer answer client
wished number _ client = client

abbrev pub row_of : ℕ → ℕ → Brought → Client → Client
row_of outer number (brought.Session unique salt) client = learn outer unique salt client
row_of outer number (brought.Answer about result code) client = answered about result code client
row_of outer number (brought.Notice about code salt) client = noticed outer (record { about = about; code = code; salt = salt }) client
row_of outer number other client = wished number other client

-- a message with an odd seq is acknowledged
abbrev pub acknowledges_number : ℕ → ℕ → Client → Client
acknowledges_number number seq client =
    if is_odd seq
    then record client { table = record client.table { acks = acknowledged number client.table.acks } }
    else client

abbrev pub takes_lesson : ℕ → Client → Incoming → Client
takes_lesson outer client lesson =
    if client.has_ended then client else row_of outer lesson.number lesson.brought (acknowledges_number lesson.number lesson.seq client)

-- ---- what it changes of the calls

-- states are told of the messages that a request asked about
abbrev pub table_told_of : Option StateRequest → ℕ → List ℕ → Table → Table
table_told_of None request info table = table
table_told_of (Some asked) request info table = if asked.number == request then table_states asked.numbers info table else table
