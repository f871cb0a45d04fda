-- A client keeps its key, and but for a renewal its session numbers.
use Rattle.std.proofs.Common.{◌≡◌, ℕ, ◌==◌, ◌||◌, Bool, true, false, Option, None, Some, List, [], ◌∷◌, ◌++◌, length, fold, refl, ◌∙◌}
use Rattle.std.specs.Prelude.{◌&&◌, is_some, is_none, nat_le, nat_lt, ⊤}
use Rattle.std.specs.List.{list_any, zip}
use Rattle.std.proofs.lemmas.Bool.{cond_both}
use Rattle.msg_ids.specs.Counters.{room}
use Rattle.service_tl.specs.declared.lists.Message.{Message}
use Rattle.service_tl.specs.declared.item.Item.{Item}
use Rattle.service_tl.specs.declared.item.Item.TheVariants.{DestroySession, GetFutureSalts, MsgsAck, Ping, RpcDropAnswer, RpcResult, NewSessionCreated, MsgsStateReq, MsgsStateInfo, MsgsAllInfo, MsgResendReq, MsgDetailedInfo, MsgNewDetailedInfo, BadMsgNotification, BadServerSalt}
use Rattle.service_tl.specs.ItemOf.{item_of}
use Rattle.service_tl.specs.Items.{spelling_of}
use Rattle.packing.specs.Packing.{is_within}
use Rattle.envelope.specs.declared.parts.Envelope.{Envelope}
use Rattle.call_table.specs.declared.call.CallNo.{CallNo}
use Rattle.call_table.specs.declared.call.Group.TheVariants as group
use Rattle.call_table.specs.Table.{Call, at, group_of, inner_of, owner}
use Rattle.client_rules.specs.Client.{Client, Temporary, States, StateRequest, after_message, at_moment, calls_of, is_open, numbered, with_call}
use Rattle.client_rules.specs.Asking.{can_drop, dropped}
use Rattle.client_rules.specs.Learning.{ended, learn, learnt_max, learns, with_clock}
use Rattle.client_rules.specs.Sending.{Setting, binding_body}
use Rattle.client_rules.specs.Filling.{Filling, Goes, Never, Turn, Waits, asks_binding, asks_states, body_behind, changes, empty, fills, goes, is_needed, number_of, outstanding, says, says_acks, says_binding, says_call, says_call_at, says_destroyed, says_drop, says_drop_of, says_ping, says_resent, says_salts, says_states, says_told, sends_call, takes_turn, turn_of, undropped}
use Rattle.client_rules.specs.Flush.{Answer, Flushed, Marked, Nothing, Sends, Spent, binding_alone, filled, first_marked, flush, has_any, remembers, remembers_lone, room_min, sends, unless_binding, unless_call}
use Rattle.client_rules.specs.Taking.{Notice, acknowledges, alone_call, alone_number, answered_by, asks_answer, goes_again, has_asked, is_for, message_in, messages_of, noticed_by, packet_noticed, row, take, takes_message, takes_over, told_of, told_state, told_states, with_notice_clock, with_notice_salt, without_idle_wish}
use Rattle.msg_ids.specs.Counters.{is_odd}
use Rattle.client_rules.specs.Events.{takes, unless_fault}
use Rattle.client_rules.specs.Asking.{submit_fault, submitted}

-- the same key and session numbers
abbrev pub IsSame : Client → Client → Type 0
IsSame one other = (other.key ≡ one.key) × (other.session ≡ one.session) × (other.former ≡ one.former)

pub same_itself : (c : Client) → IsSame c c
same_itself c = (refl, refl, refl)

pub same_then : (a b c : Client) → IsSame a b → IsSame b c → IsSame a c
same_then a b c one two = (two.0 ∙ one.0, two.1 ∙ one.1, two.2 ∙ one.2)

-- ---- what it takes

learns_same : (outer unique salt : ℕ) (c : Client) → IsSame c (learn outer unique salt c)
learns_same outer unique salt c =
    cond_both (list_any (λ learnt. learnt == unique) c.learnt) c _ (IsSame c) (λ is. same_itself c)
    (λ is. cond_both (nat_le learnt_max (length c.learnt)) (ended c) (with_clock outer (learns unique salt c)) (IsSame c) (λ is. (refl, refl, refl)) (λ is. (refl, refl, refl)))

answered_same : (call : Option CallNo) (is_binding : Bool) (result : List ℕ) (c : Client) → IsSame c (answered_by call is_binding result c)
answered_same (Some call) is_binding result c = (refl, refl, refl)
answered_same None true result c = (refl, refl, refl)
answered_same None false result c = same_itself c

clock_same : (outer code : ℕ) (c : Client) → IsSame c (with_notice_clock outer code c)
clock_same outer code c = cond_both (code == 16 || code == 17) (with_clock outer c) c (IsSame c) (λ is. (refl, refl, refl)) (λ is. same_itself c)

salt_same : (salt : Option ℕ) (c : Client) → IsSame c (with_notice_salt salt c)
salt_same None c = same_itself c
salt_same (Some salt) c = (refl, refl, refl)

over_same : (outer : ℕ) (notice : Notice) (c : Client) → IsSame c (takes_over outer notice c)
over_same outer notice c =
    same_then c (with_notice_clock outer notice.code c) (takes_over outer notice c) (clock_same outer notice.code c) (salt_same notice.salt (with_notice_clock outer notice.code c))

alone_same : (call : Option CallNo) (c : Client) → IsSame c (alone_call call c)
alone_same None c = same_itself c
alone_same (Some call) c = (refl, refl, refl)

all_alone_same : (numbers : List ℕ) (c : Client) → IsSame c (fold alone_number c numbers)
all_alone_same [] c = same_itself c
all_alone_same (number ∷ numbers) c =
    same_then c (alone_number c number) (fold alone_number (alone_number c number) numbers) (alone_same (owner number (calls_of c)) c) (all_alone_same numbers (alone_number c number))

packet_same : (numbers : List ℕ) (c : Client) → IsSame c (packet_noticed numbers c)
packet_same numbers c = all_alone_same numbers _

noticed_same : (call : Option CallNo) (is_binding : Bool) (packet : Option (List ℕ)) (outer : ℕ) (notice : Notice) (c : Client) → IsSame c (noticed_by call is_binding packet outer notice c)
noticed_same (Some call) is_binding packet outer notice c = over_same outer notice c
noticed_same None true packet outer notice c = over_same outer notice c
noticed_same None false (Some numbers) outer notice c =
    same_then c (takes_over outer notice c) (packet_noticed numbers (takes_over outer notice c)) (over_same outer notice c) (packet_same numbers (takes_over outer notice c))
noticed_same None false None outer notice c = same_itself c

told_same : (c : Client) (one : ℕ × ℕ) → IsSame c (told_state c one)
told_same c one = cond_both (goes_again one.1) (alone_number c one.0) c (IsSame c) (λ is. alone_same (owner one.0 (calls_of c)) c) (λ is. same_itself c)

all_told_same : (ones : List (ℕ × ℕ)) (c : Client) → IsSame c (fold told_state c ones)
all_told_same [] c = same_itself c
all_told_same (one ∷ ones) c = same_then c (told_state c one) (fold told_state (told_state c one) ones) (told_same c one) (all_told_same ones (told_state c one))

states_same : (numbers info : List ℕ) (c : Client) → IsSame c (told_states numbers info c)
states_same numbers info c = cond_both (length info == length numbers) (fold told_state c (zip numbers info)) c (IsSame c) (λ is. all_told_same (zip numbers info) c) (λ is. same_itself c)

request_same : (asked : Option StateRequest) (request : ℕ) (info : List ℕ) (c : Client) → IsSame c (told_of asked request info c)
request_same None request info c = same_itself c
request_same (Some asked) request info c = cond_both (asked.number == request) (told_states asked.numbers info c) c (IsSame c) (λ is. states_same asked.numbers info c) (λ is. same_itself c)

asks_same : (number : ℕ) (c : Client) → IsSame c (asks_answer number c)
asks_same number c = cond_both _ _ c (IsSame c) (λ is. (refl, refl, refl)) (λ is. same_itself c)

row_same : (outer number : ℕ) (item : Item) (c : Client) → IsSame c (row outer number item c)
row_same outer number (NewSessionCreated first unique salt) c = learns_same outer unique salt c
row_same outer number (RpcResult about result) c = answered_same (owner about (calls_of c)) (has_asked about c.temporary) result c
row_same outer number (BadMsgNotification about seq code) c =
    noticed_same (owner about (calls_of c)) (has_asked about c.temporary) (inner_of about c.table.packets) outer (record { about = about; code = code; salt = None }) c
row_same outer number (BadServerSalt about seq code salt) c =
    noticed_same (owner about (calls_of c)) (has_asked about c.temporary) (inner_of about c.table.packets) outer (record { about = about; code = 48; salt = Some salt }) c
row_same outer number (MsgsStateInfo request info) c = request_same c.asked request info c
row_same outer number (MsgsAllInfo numbers info) c = states_same numbers info c
row_same outer number (MsgResendReq numbers) c = all_alone_same numbers c
row_same outer number (MsgsStateReq numbers) c = (refl, refl, refl)
row_same outer number (MsgDetailedInfo about answer bytes status) c = asks_same answer c
row_same outer number (MsgNewDetailedInfo answer bytes status) c = asks_same answer c
row_same outer number _ c = same_itself c

acks_same : (message : Message) (c : Client) → IsSame c (acknowledges message c)
acks_same message c = cond_both (is_odd message.seq) _ c (IsSame c) (λ is. (refl, refl, refl)) (λ is. same_itself c)

message_same : (outer : ℕ) (c : Client) (message : Message) → IsSame c (takes_message outer c message)
message_same outer c message =
    cond_both c.has_ended c (row outer message.number (item_of message.body) (acknowledges message c)) (IsSame c) (λ is. same_itself c)
    (λ is. same_then c (acknowledges message c) (row outer message.number (item_of message.body) (acknowledges message c)) (acks_same message c)
    (row_same outer message.number (item_of message.body) (acknowledges message c)))

messages_same : (outer : ℕ) (messages : List Message) (c : Client) → IsSame c (fold (takes_message outer) c messages)
messages_same outer [] c = same_itself c
messages_same outer (message ∷ messages) c =
    same_then c (takes_message outer c message) (fold (takes_message outer) (takes_message outer c message) messages) (message_same outer c message)
    (messages_same outer messages (takes_message outer c message))

take_same : (now : ℕ) (envelope : Envelope) (c : Client) → IsSame c (take now envelope c)
take_same now envelope c =
    let ready : Client = at_moment now c in
    cond_both (is_for c envelope) (without_idle_wish (fold (takes_message envelope.number) ready (messages_of (message_in envelope)))) ready (IsSame c)
    (λ is. messages_same envelope.number (messages_of (message_in envelope)) ready) (λ is. (refl, refl, refl))

pub takes_same : (now : ℕ) (opened : Option Envelope) (c : Client) → IsSame c (takes now opened c)
takes_same now None c = (refl, refl, refl)
takes_same now (Some envelope) c = take_same now envelope c

-- ---- its user's wishes

pub submits_same : (body : List ℕ) (earlier : Option CallNo) (c : Client) → IsSame c (unless_fault body earlier c)
submits_same body earlier c = cond_both (is_none (submit_fault body earlier c)) (submitted body earlier c) c (IsSame c) (λ is. (refl, refl, refl)) (λ is. same_itself c)

pub drops_same : (call : CallNo) (c : Client) → IsSame c (dropped call c)
drops_same call c = cond_both (can_drop call c) _ c (IsSame c) (λ is. (refl, refl, refl)) (λ is. same_itself c)

-- ---- what it sends

module _ {S : Type 0} (setting : Setting S) (c : Client) where
  abbrev In : Filling S → Type 0
  In filling = IsSame c filling.client

  goes_in : (message : Message) (leaves : Filling S → Filling S) (filling : Filling S) → ((f : Filling S) → In f → In (leaves f)) → In filling → In (goes message leaves filling)
  goes_in message leaves filling so h =
      cond_both filling.is_full filling _ In (λ is. h)
      (λ is. cond_both (is_within (filling.messages ++ message ∷ [])) (leaves (record filling { messages = filling.messages ++ message ∷ [] })) (record filling { is_full = true }) In
      (λ is. so (record filling { messages = filling.messages ++ message ∷ [] }) h) (λ is. h))

  says_in : (is_content : Bool) (item : Item) (change : Client → Client) (filling : Filling S) → ((d : Client) → IsSame d (change d)) → In filling → In (says is_content item change filling)
  says_in is_content item change filling so h =
      goes_in (numbered is_content (spelling_of item) filling.client) (changes (λ (d : Client). change (after_message is_content d))) filling (λ f k. same_then c f.client (change (after_message is_content f.client)) k (so (after_message is_content f.client))) h

  acks_in : (acks : List ℕ) (filling : Filling S) → In filling → In (says_acks acks filling)
  acks_in [] filling h = h
  acks_in (ack ∷ acks) filling h = says_in false (MsgsAck (ack ∷ acks)) (λ (d : Client). record d { table = record d.table { acks = [] } }) filling (λ d. (refl, refl, refl)) h

  told_in : (states : Option States) (filling : Filling S) → In filling → In (says_told states filling)
  told_in None filling h = h
  told_in (Some states) filling h = says_in false (MsgsStateInfo states.request states.info) (λ (d : Client). record d { waiting = record d.waiting { told = None } }) filling (λ d. (refl, refl, refl)) h

  resent_in : (numbers : List ℕ) (filling : Filling S) → In filling → In (says_resent numbers filling)
  resent_in [] filling h = h
  resent_in (number ∷ numbers) filling h = says_in false (MsgResendReq (number ∷ numbers)) (λ (d : Client). record d { waiting = record d.waiting { resent = [] } }) filling (λ d. (refl, refl, refl)) h

  states_in : (so : Bool) (filling : Filling S) → In filling → In (says_states so filling)
  states_in false filling h = h
  states_in true filling h = says_in false (MsgsStateReq (outstanding filling.client)) (asks_states (outstanding filling.client)) filling (λ d. (refl, refl, refl)) h

  ping_in : (id : Option ℕ) (filling : Filling S) → In filling → In (says_ping id filling)
  ping_in None filling h = h
  ping_in (Some id) filling h = says_in false (Ping id) (λ (d : Client). record d { waiting = record d.waiting { ping = None } }) filling (λ d. (refl, refl, refl)) h

  salts_in : (count : Option ℕ) (filling : Filling S) → In filling → In (says_salts count filling)
  salts_in None filling h = h
  salts_in (Some count) filling h = says_in true (GetFutureSalts count) (λ (d : Client). record d { waiting = record d.waiting { salts = None } }) filling (λ d. (refl, refl, refl)) h

  destroyed_in : (session : Option ℕ) (filling : Filling S) → In filling → In (says_destroyed session filling)
  destroyed_in None filling h = h
  destroyed_in (Some session) filling h = cond_both (is_open filling.client) _ filling In (λ is. says_in true (DestroySession session) (λ (d : Client). record d { waiting = record d.waiting { destroyed = None } }) filling (λ d. (refl, refl, refl)) h) (λ is. h)

  binding_in : (temporary : Option Temporary) (filling : Filling S) → In filling → In (says_binding setting temporary filling)
  binding_in None filling h = h
  binding_in (Some temporary) filling h =
      cond_both (is_needed temporary.binding && is_open filling.client) _ filling In (λ is.
      let unsaid : Message = numbered true [] filling.client in
      let message : Message = record unsaid { body = binding_body setting filling.client temporary unsaid.number filling.draw } in
      goes_in message (asks_binding setting message) filling (λ f k. k) h) (λ is. h)

  drop_of_in : (call : CallNo) (number : Option ℕ) (filling : Filling S) → In filling → In (says_drop_of call number filling)
  drop_of_in call None filling h = h
  drop_of_in call (Some number) filling h = says_in true (RpcDropAnswer number) (with_call call undropped) filling (λ d. (refl, refl, refl)) h

  drops_in : (calls : List CallNo) (filling : Filling S) → In filling → In (fold says_drop filling calls)
  drops_in [] filling h = h
  drops_in (call ∷ calls) filling h = drops_in calls (says_drop filling call) (drop_of_in call (number_of (at call (calls_of filling.client))) filling h)

  turn_in : (call : CallNo) (body : List ℕ) (turn : Turn) (filling : Filling S) → In filling → In (takes_turn call body turn filling)
  turn_in call body (Goes wrap) filling h =
      let message : Message = numbered true (body_behind wrap body) filling.client in
      goes_in message (sends_call call wrap message) filling (λ f k. k) h
  turn_in call body Waits filling h = h
  turn_in call body Never filling h = h

  call_at_in : (number : CallNo) (call : Option Call) (filling : Filling S) → In filling → In (says_call_at number call filling)
  call_at_in number None filling h = h
  call_at_in number (Some call) filling h = turn_in number call.body (turn_of filling.client call) filling h

  calls_in : (calls : List CallNo) (filling : Filling S) → In filling → In (fold says_call filling calls)
  calls_in [] filling h = h
  calls_in (call ∷ calls) filling h =
      calls_in calls (says_call filling call)
      (cond_both filling.is_full filling (says_call_at call (at call (calls_of filling.client)) filling) In (λ is. h) (λ is. call_at_in call (at call (calls_of filling.client)) filling h))

  fills_in : (d : Client) (draw : S) → IsSame c d → In (fills setting d draw)
  fills_in d draw h =
      calls_in (group_of group.Queued (calls_of d)) _
      (drops_in (group_of group.Dropping (calls_of d)) _
      (binding_in d.temporary _
      (destroyed_in d.waiting.destroyed _ (salts_in d.waiting.salts _ (ping_in d.waiting.ping _ (states_in d.waiting.states _
      (resent_in d.waiting.resent _ (told_in d.waiting.told _ (acks_in d.table.acks (empty d draw) h)))))))))

  call_in : (marked : Option Marked) (d : Client) (draw : S) → IsSame c d → In (unless_call setting marked d draw)
  call_in (Some marked) d draw h = h
  call_in None d draw h = fills_in d draw h

  alone_in : (message : Option Message) (d : Client) (draw : S) → IsSame c d → In (unless_binding setting message d draw)
  alone_in (Some message) d draw h = h
  alone_in None d draw h = call_in (first_marked (calls_of d) (group_of group.Alone (calls_of d))) d draw h

  -- what a flush gives is under the client's key and session number
  abbrev pub IsFrom : Answer → Type 0
  IsFrom Nothing = ⊤
  IsFrom Spent = ⊤
  IsFrom (Sends packet) = (packet.envelope.key ≡ c.key) × (packet.envelope.session ≡ c.session)

  abbrev pub IsFlushed : Flushed S → Type 0
  IsFlushed done = IsSame c done.client × IsFrom done.answer

  lone_same : (number : ℕ) (inner : List ℕ) (d : Client) → IsSame c d → IsSame c (remembers_lone number inner d)
  lone_same number inner d h = cond_both (is_some (owner number (calls_of d))) d (remembers number inner d) (IsSame c) (λ is. h) (λ is. h)

  sends_in : (messages : List Message) (filling : Filling S) → In filling → IsFlushed (sends setting messages filling)
  sends_in [] filling h = (h, tt)
  sends_in (message ∷ []) filling h =
      let d = lone_same message.number filling.inner filling.client h in (d, (d.0, d.1))
  sends_in (message ∷ other ∷ messages) filling h = (h, (h.0, h.1))

  pub flush_same : (now : ℕ) (draw : S) → IsFlushed (flush setting now c draw)
  flush_same now draw =
      let filling : Filling S = filled setting (at_moment now c) draw in
      let h : In filling = alone_in (binding_alone c.temporary) (at_moment now c) draw (refl, refl, refl) in
      cond_both (has_any filling.messages) _ (sends setting [] filling) IsFlushed
      (λ is. cond_both (nat_lt (room c.counters) room_min) (record { answer = Spent; client = c; draw = draw }) (sends setting filling.messages filling) IsFlushed
      (λ is. (same_itself c, tt)) (λ is. sends_in filling.messages filling h))
      (λ is. sends_in [] filling h)
