-- What an item from the server does to a client's salt and to the unique numbers that it learnt.
use Rattle.std.proofs.Common.{◌≡◌, ◌≢◌, ◌⊎◌, ◌<◌, inl, inr, ℕ, Bool, true, false, List, [], ◌∷◌, ◌++◌, fold, length, Option, None, Some, if◌then◌else◌, refl, arith}
use Rattle.std.specs.Prelude.{◌==◌, ◌||◌, nat_le, nat_lt, option_map}
use Rattle.std.specs.List.{list_any, zip}
use Rattle.std.proofs.lemmas.Bool.Decides.{nat_tests}
use Rattle.service_tl.specs.declared.lists.Message.{Message}
use Rattle.service_tl.specs.declared.item.Item.{Item}
use Rattle.service_tl.specs.declared.item.Item.TheVariants as item
use Rattle.service_tl.specs.declared.item.Item.TheVariants.{AuthBindTempAuthKey, BadMsgNotification, BadServerSalt, Broken, DestroySession, DestroySessionNone, DestroySessionOk, FutureSalts, GetFutureSalts, InvokeAfterMsg, InvokeAfterMsgs, MsgContainer, MsgDetailedInfo, MsgNewDetailedInfo, MsgResendReq, MsgsAck, MsgsAllInfo, MsgsStateInfo, MsgsStateReq, NewSessionCreated, Packed, Ping, PingDelayDisconnect, Pong, RpcAnswerDropped, RpcAnswerDroppedRunning, RpcAnswerUnknown, RpcDropAnswer, RpcError, RpcResult}
use Rattle.service_tl.specs.ItemOf.{item_of}
use Rattle.call_table.specs.declared.call.CallNo.{CallNo}
use Rattle.call_table.specs.Table.{acknowledged, inner_of, owner}
use Rattle.client_rules.specs.Client.{Client, StateRequest, calls_of}
use Rattle.client_rules.specs.Filling.{numbers_max}
use Rattle.client_rules.specs.Learning.{ended, learn, learns, learnt_max, with_clock}
use Rattle.client_rules.specs.Taking.{acknowledges, alone_among, alone_call, alone_number, answered_by, asks_answer, goes_again, has_asked, noticed, noticed_by, packet_noticed, row, takes_message, told_of, told_state, told_states, with_notice_clock}
use Rattle.msg_ids.specs.Counters.{is_odd}
use Rattle.law_client.specs.Salts.{IsCreation, IsNotice, IsOwn}
use Rattle.law_client.proofs.Keeping.{Keeps, both, fold-keeps, if-so, stays}

-- ---- calls, and the clock

alone-keeps : (call : Option CallNo) (client : Client) → Keeps client (alone_call call client)
alone-keeps None client = stays client
alone-keeps (Some call) client = record { learnt = refl; salt = refl; packets = refl }

number-keeps : (client : Client) (number : ℕ) → Keeps client (alone_number client number)
number-keeps client number = alone-keeps (owner number (calls_of client)) client

all-alone : (client : Client) (numbers : List ℕ) → Keeps client (fold alone_number client numbers)
all-alone client numbers = fold-keeps alone_number number-keeps client numbers

packet-keeps : (numbers : List ℕ) (client : Client) → Keeps client (packet_noticed numbers client)
packet-keeps numbers client =
    let marked : Client = record client { temporary = option_map (alone_among numbers) client.temporary } in
    let k = all-alone marked numbers in
    record { learnt = k.learnt; salt = k.salt; packets = k.packets }

clock-keeps : (outer code : ℕ) (client : Client) → Keeps client (with_notice_clock outer code client)
clock-keeps outer code client =
    if-so (Keeps client) (code == 16 || code == 17) (with_clock outer client) client (record { learnt = refl; salt = refl; packets = refl }) (stays client)

state-keeps : (client : Client) (told : ℕ × ℕ) → Keeps client (told_state client told)
state-keeps client (number, byte) = if-so (Keeps client) (goes_again byte) (alone_number client number) client (number-keeps client number) (stays client)

states-keep : (numbers info : List ℕ) (client : Client) → Keeps client (told_states numbers info client)
states-keep numbers info client =
    if-so (Keeps client) (length info == length numbers) (fold told_state client (zip numbers info)) client
    (fold-keeps told_state state-keeps client (zip numbers info)) (stays client)

told-keeps : (asked : Option StateRequest) (request : ℕ) (info : List ℕ) (client : Client) → Keeps client (told_of asked request info client)
told-keeps None request info client = stays client
told-keeps (Some asked) request info client =
    if-so (Keeps client) (asked.number == request) (told_states asked.numbers info client) client (states-keep asked.numbers info client) (stays client)

answer-keeps : (call : Option CallNo) (is_binding : Bool) (result : List ℕ) (client : Client) → Keeps client (answered_by call is_binding result client)
answer-keeps (Some call) is_binding result client = record { learnt = refl; salt = refl; packets = refl }
answer-keeps None true result client = record { learnt = refl; salt = refl; packets = refl }
answer-keeps None false result client = stays client

asks-keep : (answer : ℕ) (client : Client) → Keeps client (asks_answer answer client)
asks-keep answer client =
    if-so (Keeps client) (nat_lt (length client.waiting.resent) numbers_max)
    (record client { waiting = record client.waiting { resent = client.waiting.resent ++ answer ∷ [] } }) client
    (record { learnt = refl; salt = refl; packets = refl }) (stays client)

-- ---- notices

notice-keeps : (found : Option CallNo) (is_binding : Bool) (packet : Option (List ℕ)) (outer about code : ℕ) (client : Client)
    → Keeps client (noticed_by found is_binding packet outer (record { about = about; code = code; salt = None }) client)
notice-keeps (Some call) is_binding packet outer about code client =
    let k = clock-keeps outer code client in record { learnt = k.learnt; salt = k.salt; packets = k.packets }
notice-keeps None true packet outer about code client =
    let k = clock-keeps outer code client in record { learnt = k.learnt; salt = k.salt; packets = k.packets }
notice-keeps None false (Some numbers) outer about code client =
    let now : Client = with_notice_clock outer code client in
    both client now (packet_noticed numbers now) (clock-keeps outer code client) (packet-keeps numbers now)
notice-keeps None false None outer about code client = stays client

-- it was about something that is known
abbrev Known : Option CallNo → Bool → Option (List ℕ) → Type 0
Known found is_binding packet = (found ≢ None) ⊎ (is_binding ≡ true) ⊎ (packet ≢ None)

-- the given salt is taken over
pub record Salts (salt : ℕ) (one other : Client) : Type 0 where
  pub learnt : other.learnt ≡ one.learnt
  pub given : other.salt ≡ salt
  pub packets : other.table.packets ≡ one.table.packets

salts-so : (found : Option CallNo) (is_binding : Bool) (packet : Option (List ℕ)) (outer about salt : ℕ) (client : Client)
    → Keeps client (noticed_by found is_binding packet outer (record { about = about; code = 48; salt = Some salt }) client)
    ⊎ (Salts salt client (noticed_by found is_binding packet outer (record { about = about; code = 48; salt = Some salt }) client) × Known found is_binding packet)
salts-so (Some call) is_binding packet outer about salt client =
    inr (record { learnt = refl; given = refl; packets = refl }, inl (λ e. absurd cc))
salts-so None true packet outer about salt client = inr (record { learnt = refl; given = refl; packets = refl }, inr (inl refl))
salts-so None false (Some numbers) outer about salt client =
    let now : Client = record client { salt = salt } in
    let k = packet-keeps numbers now in
    inr (record { learnt = k.learnt; given = k.salt; packets = k.packets }, inr (inr (λ e. absurd cc)))
salts-so None false None outer about salt client = inl (stays client)

-- ---- an item

-- a new unique number is learnt, with the salt of its item
pub record Learns (item : Item) (one other : Client) : Type 0 where
  pub unique : ℕ
  pub learnt : other.learnt ≡ one.learnt ++ unique ∷ []
  pub few : length one.learnt < 1024
  pub packets : other.table.packets ≡ []
  pub creation : IsCreation other.salt item

-- the right salt is taken over
pub record Notes (item : Item) (one other : Client) : Type 0 where
  pub learnt : other.learnt ≡ one.learnt
  pub packets : other.table.packets ≡ one.table.packets
  pub notice : IsNotice other.salt item one

abbrev pub Moves : Item → Client → Client → Type 0
Moves item one other = Keeps one other ⊎ Learns item one other ⊎ Notes item one other

few-by : (n : ℕ) → nat_le 1024 n ≡ false → n < 1024
few-by n h = grind (arith, nat_tests)

three-ways : (P : Client → Type 0) (known full : Bool) (a b c : Client) → P a → P b → (full ≡ false → P c) → P (if known then a else if full then b else c)
three-ways P true full a b c at-a at-b at-c = at-a
three-ways P false true a b c at-a at-b at-c = at-b
three-ways P false false a b c at-a at-b at-c = at-c refl

learn-moves : (outer first unique salt : ℕ) (client : Client) → Moves (NewSessionCreated first unique salt) client (learn outer unique salt client)
learn-moves outer first unique salt client =
    three-ways (Moves (NewSessionCreated first unique salt) client) (list_any (λ (learnt : ℕ). learnt == unique) client.learnt) (nat_le learnt_max (length client.learnt))
    client (ended client) (with_clock outer (learns unique salt client))
    (inl (stays client)) (inl (record { learnt = refl; salt = refl; packets = refl }))
    (λ h. inr (inl (record {
      unique = unique;
      learnt = refl;
      few = few-by (length client.learnt) h;
      packets = refl;
      creation = record { first = first; unique = unique; is = refl };
    })))

salt-moves : (outer about seq code salt : ℕ) (client other : Client)
    → (Keeps client other ⊎ (Salts salt client other × IsOwn about client)) → Moves (BadServerSalt about seq code salt) client other
salt-moves outer about seq code salt client other (inl k) = inl k
salt-moves outer about seq code salt client other (inr k) =
    inr (inr (record {
      learnt = k.0.learnt;
      packets = k.0.packets;
      notice = record { about = about; seq = seq; code = code; is = rw k.0.given refl; own = k.1 };
    }))

pub row-moves : (outer number : ℕ) (item : Item) (client : Client) → Moves item client (row outer number item client)
row-moves outer number (NewSessionCreated first unique salt) client = learn-moves outer first unique salt client
row-moves outer number (RpcResult about result) client = inl (answer-keeps (owner about (calls_of client)) (has_asked about client.temporary) result client)
row-moves outer number (BadMsgNotification about seq code) client =
    inl (notice-keeps (owner about (calls_of client)) (has_asked about client.temporary) (inner_of about client.table.packets) outer about code client)
row-moves outer number (BadServerSalt about seq code salt) client =
    salt-moves outer about seq code salt client (noticed outer (record { about = about; code = 48; salt = Some salt }) client)
    (salts-so (owner about (calls_of client)) (has_asked about client.temporary) (inner_of about client.table.packets) outer about salt client)
row-moves outer number (MsgsStateInfo request info) client = inl (told-keeps client.asked request info client)
row-moves outer number (MsgsAllInfo numbers info) client = inl (states-keep numbers info client)
row-moves outer number (MsgResendReq numbers) client = inl (all-alone client numbers)
row-moves outer number (MsgsStateReq numbers) client = inl (record { learnt = refl; salt = refl; packets = refl })
row-moves outer number (MsgDetailedInfo about answer bytes status) client = inl (asks-keep answer client)
row-moves outer number (MsgNewDetailedInfo answer bytes status) client = inl (asks-keep answer client)
row-moves outer number (RpcError code text) client = inl (stays client)
row-moves outer number (RpcDropAnswer a) client = inl (stays client)
row-moves outer number RpcAnswerUnknown client = inl (stays client)
row-moves outer number RpcAnswerDroppedRunning client = inl (stays client)
row-moves outer number (RpcAnswerDropped a b c) client = inl (stays client)
row-moves outer number (GetFutureSalts a) client = inl (stays client)
row-moves outer number (FutureSalts a b c) client = inl (stays client)
row-moves outer number (Ping a) client = inl (stays client)
row-moves outer number (PingDelayDisconnect a b) client = inl (stays client)
row-moves outer number (Pong a b) client = inl (stays client)
row-moves outer number (DestroySession a) client = inl (stays client)
row-moves outer number (DestroySessionOk a) client = inl (stays client)
row-moves outer number (DestroySessionNone a) client = inl (stays client)
row-moves outer number (MsgContainer a) client = inl (stays client)
row-moves outer number (MsgsAck a) client = inl (stays client)
row-moves outer number (InvokeAfterMsg a b) client = inl (stays client)
row-moves outer number (InvokeAfterMsgs a b) client = inl (stays client)
row-moves outer number (AuthBindTempAuthKey a b c d) client = inl (stays client)
row-moves outer number Packed client = inl (stays client)
row-moves outer number item.Call client = inl (stays client)
row-moves outer number (Broken a) client = inl (stays client)

-- ---- a message

-- an acknowledgement that waits leaves all of that
acked-moves : (item : Item) (b : Bool) (acks : List ℕ) (one other : Client) → Moves item (if b then record one { table = record one.table { acks = acks } } else one) other
    → Moves item one other
acked-moves item false acks one other m = m
acked-moves item true acks one other (inl k) = inl (record { learnt = k.learnt; salt = k.salt; packets = k.packets })
acked-moves item true acks one other (inr (inl l)) =
    inr (inl (record { unique = l.unique; learnt = l.learnt; few = l.few; packets = l.packets; creation = l.creation }))
acked-moves item true acks one other (inr (inr n)) =
    inr (inr (record {
      learnt = n.learnt;
      packets = n.packets;
      notice = record { about = n.notice.about; seq = n.notice.seq; code = n.notice.code; is = n.notice.is; own = n.notice.own };
    }))

pub message-moves : (outer : ℕ) (client : Client) (message : Message) → Moves (item_of message.body) client (takes_message outer client message)
message-moves outer client message =
    let its = item_of message.body in
    let ready : Client = acknowledges message client in
    if-so (Moves its client) client.has_ended client (row outer message.number its ready) (inl (stays client))
    (acked-moves its (is_odd message.seq) (acknowledged message.number client.table.acks) client (row outer message.number its ready) (row-moves outer message.number its ready))
