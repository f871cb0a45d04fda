-- A packet keeps a client plain.
use Rattle.std.proofs.Common.{◌≡◌, ℕ, Bool, true, false, ◌==◌, ◌||◌, if◌then◌else◌, Option, Some, None, List, [], ◌∷◌, ◌++◌, length, ap}
use Rattle.std.specs.Prelude.{fold, nat_le, nat_lt, option_map, not}
use Rattle.std.specs.List.{list_any, zip}
use Rattle.service_tl.specs.declared.item.Item.{Item}
use Rattle.service_tl.specs.declared.item.Item.TheVariants.{RpcResult, NewSessionCreated, MsgsStateReq, MsgsStateInfo, MsgsAllInfo, MsgResendReq, MsgDetailedInfo, MsgNewDetailedInfo, BadMsgNotification, BadServerSalt}
use Rattle.service_tl.specs.declared.lists.Message.{Message}
use Rattle.service_tl.specs.ItemOf.{item_of}
use Rattle.envelope.specs.declared.parts.Envelope.{Envelope}
use Rattle.call_table.specs.declared.call.CallNo.{CallNo}
use Rattle.call_table.specs.declared.call.Fate.TheVariants as fate
use Rattle.call_table.specs.Table.{Call, acknowledged, inner_of, living_name, owner}
use Rattle.client_rules.specs.Client.{Client, Needed, StateRequest, at_moment, bound_so, calls_of, is_open}
use Rattle.client_rules.specs.Asking.{alone}
use Rattle.client_rules.specs.Filling.{numbers_max}
use Rattle.client_rules.specs.Learning.{ended, fate_at_end, fate_learning, learn, learns, learnt_max, with_clock}
use Rattle.client_rules.specs.Taking.{Notice, acknowledges, alone_among, alone_call, alone_number, answered_by, asked_states, asks_answer, binding_answered, binding_noticed, fate_noticed, goes_again, has_asked, is_for, message_in, messages_of, noticed, noticed_by, packet_noticed, row, take, takes_message, takes_over, told_of, told_state, told_states, with_notice_clock, with_notice_salt, without_idle_wish}
use Rattle.msg_ids.specs.Counters.{is_odd}
use Rattle.client_rules.specs.Events.{takes}
use Rattle.sim_load.specs.Plain.{IsPlain}
use Rattle.sim_load.proofs.PlainClients.{bound_plain, call_changed, each_plain, either, fate_set, folded}

-- ---- a new unique number

ended_plain : (client : Client) → IsPlain client → IsPlain (ended client)
ended_plain client plain =
    let each = each_plain (λ call. fate_at_end call.state) client plain in record { key = each.key; calls = each.calls }

learns_plain : (outer unique salt : ℕ) (client : Client) → IsPlain client → IsPlain (with_clock outer (learns unique salt client))
learns_plain outer unique salt client plain =
    let each = each_plain (λ call. fate_learning (not (is_open client)) salt (living_name call)) client plain in
    record { key = ap (option_map (bound_so Needed)) plain.key; calls = each.calls }

learn_plain : (outer unique salt : ℕ) (client : Client) → IsPlain client → IsPlain (learn outer unique salt client)
learn_plain outer unique salt client plain =
    either IsPlain (list_any (λ learnt. learnt == unique) client.learnt) client
    (if nat_le learnt_max (length client.learnt) then ended client else with_clock outer (learns unique salt client)) plain
    (either IsPlain (nat_le learnt_max (length client.learnt)) (ended client) (with_clock outer (learns unique salt client))
    (ended_plain client plain) (learns_plain outer unique salt client plain))

-- ---- results and notices

answered_plain : (found : Option CallNo) (is_binding : Bool) (result : List ℕ) (client : Client) → IsPlain client
    → IsPlain (answered_by found is_binding result client)
answered_plain (Some call) is_binding result client plain = fate_set call (fate.Done result) client plain
answered_plain None true result client plain = bound_plain (binding_answered result) client plain
answered_plain None false result client plain = plain

alone_plain : (found : Option CallNo) (client : Client) → IsPlain client → IsPlain (alone_call found client)
alone_plain None client plain = plain
alone_plain (Some call) client plain = call_changed call alone (λ one none. none) client plain

number_plain : (client : Client) (number : ℕ) → IsPlain client → IsPlain (alone_number client number)
number_plain client number plain = alone_plain (owner number (calls_of client)) client plain

numbers_plain : (numbers : List ℕ) (client : Client) → IsPlain client → IsPlain (fold alone_number client numbers)
numbers_plain numbers client plain = folded IsPlain alone_number number_plain client numbers plain

salt_plain : (salt : Option ℕ) (client : Client) → IsPlain client → IsPlain (with_notice_salt salt client)
salt_plain None client plain = plain
salt_plain (Some salt) client plain = record { key = plain.key; calls = plain.calls }

over_plain : (outer : ℕ) (notice : Notice) (client : Client) → IsPlain client → IsPlain (takes_over outer notice client)
over_plain outer notice client plain =
    salt_plain notice.salt (with_notice_clock outer notice.code client)
    (either IsPlain ((notice.code == 16) || (notice.code == 17)) (with_clock outer client) client
    (record { key = plain.key; calls = plain.calls }) plain)

packet_plain : (numbers : List ℕ) (client : Client) → IsPlain client → IsPlain (packet_noticed numbers client)
packet_plain numbers client plain =
    numbers_plain numbers (record client { temporary = option_map (alone_among numbers) client.temporary })
    (record { key = ap (option_map (alone_among numbers)) plain.key; calls = plain.calls })

noticed_plain_by : (found : Option CallNo) (is_binding : Bool) (packet : Option (List ℕ)) (outer : ℕ) (notice : Notice) (client : Client) → IsPlain client
    → IsPlain (noticed_by found is_binding packet outer notice client)
noticed_plain_by (Some call) is_binding packet outer notice client plain =
    fate_set call (fate_noticed notice.code) (takes_over outer notice client) (over_plain outer notice client plain)
noticed_plain_by None true packet outer notice client plain =
    bound_plain (binding_noticed notice.code) (takes_over outer notice client) (over_plain outer notice client plain)
noticed_plain_by None false (Some numbers) outer notice client plain =
    packet_plain numbers (takes_over outer notice client) (over_plain outer notice client plain)
noticed_plain_by None false None outer notice client plain = plain

noticed_plain : (outer : ℕ) (notice : Notice) (client : Client) → IsPlain client → IsPlain (noticed outer notice client)
noticed_plain outer notice client plain =
    noticed_plain_by (owner notice.about (calls_of client)) (has_asked notice.about client.temporary)
    (inner_of notice.about client.table.packets) outer notice client plain

-- ---- states

state_plain : (client : Client) (told : ℕ × ℕ) → IsPlain client → IsPlain (told_state client told)
state_plain client told plain =
    either IsPlain (goes_again told.1) (alone_number client told.0) client (number_plain client told.0 plain) plain

states_plain : (numbers info : List ℕ) (client : Client) → IsPlain client → IsPlain (told_states numbers info client)
states_plain numbers info client plain =
    either IsPlain (length info == length numbers) (fold told_state client (zip numbers info)) client
    (folded IsPlain told_state state_plain client (zip numbers info) plain) plain

told_plain : (asked : Option StateRequest) (request : ℕ) (info : List ℕ) (client : Client) → IsPlain client → IsPlain (told_of asked request info client)
told_plain None request info client plain = plain
told_plain (Some asked) request info client plain =
    either IsPlain (asked.number == request) (told_states asked.numbers info client) client (states_plain asked.numbers info client plain) plain

answer_plain : (number : ℕ) (client : Client) → IsPlain client → IsPlain (asks_answer number client)
answer_plain number client plain =
    either IsPlain (nat_lt (length client.waiting.resent) numbers_max)
    (record client { waiting = record client.waiting { resent = client.waiting.resent ++ number ∷ [] } }) client
    (record { key = plain.key; calls = plain.calls }) plain

-- ---- the rows

row_plain : (outer number : ℕ) (item : Item) (client : Client) → IsPlain client → IsPlain (row outer number item client)
row_plain outer number (NewSessionCreated first unique salt) client plain = learn_plain outer unique salt client plain
row_plain outer number (RpcResult about result) client plain =
    answered_plain (owner about (calls_of client)) (has_asked about client.temporary) result client plain
row_plain outer number (BadMsgNotification about seq code) client plain =
    noticed_plain outer (record { about = about; code = code; salt = None }) client plain
row_plain outer number (BadServerSalt about seq code salt) client plain =
    noticed_plain outer (record { about = about; code = 48; salt = Some salt }) client plain
row_plain outer number (MsgsStateInfo request info) client plain = told_plain client.asked request info client plain
row_plain outer number (MsgsAllInfo numbers info) client plain = states_plain numbers info client plain
row_plain outer number (MsgResendReq numbers) client plain = numbers_plain numbers client plain
row_plain outer number (MsgsStateReq numbers) client plain = record { key = plain.key; calls = plain.calls }
row_plain outer number (MsgDetailedInfo about answer bytes status) client plain = answer_plain answer client plain
row_plain outer number (MsgNewDetailedInfo answer bytes status) client plain = answer_plain answer client plain
row_plain outer number _ client plain = plain

-- ---- the packet

message_plain : (outer : ℕ) (client : Client) (message : Message) → IsPlain client → IsPlain (takes_message outer client message)
message_plain outer client message plain =
    either IsPlain client.has_ended client (row outer message.number (item_of message.body) (acknowledges message client)) plain
    (row_plain outer message.number (item_of message.body) (acknowledges message client)
    (either IsPlain (is_odd message.seq) (record client { table = record client.table { acks = acknowledged message.number client.table.acks } }) client
    (record { key = plain.key; calls = plain.calls }) plain))

take_plain : (now : ℕ) (envelope : Envelope) (client : Client) → IsPlain client → IsPlain (take now envelope client)
take_plain now envelope client plain =
    let ready = at_moment now client in
    let ready_plain : IsPlain ready = record { key = plain.key; calls = plain.calls } in
    let taken = fold (takes_message envelope.number) ready (messages_of (message_in envelope)) in
    let taken_plain : IsPlain taken = folded IsPlain (takes_message envelope.number) (message_plain envelope.number) ready (messages_of (message_in envelope)) ready_plain in
    either IsPlain (is_for client envelope) (without_idle_wish taken) ready (record { key = taken_plain.key; calls = taken_plain.calls }) ready_plain

pub takes_plain : (now : ℕ) (opened : Option Envelope) (client : Client) → IsPlain client → IsPlain (takes now opened client)
takes_plain now None client plain = record { key = plain.key; calls = plain.calls }
takes_plain now (Some envelope) client plain = take_plain now envelope client plain
