-- A client keeps its keys. It ends only by what it learns, and then each of its calls is decided.
use Rattle.std.proofs.Common.{inl, inr, map, ap, ◌≡◌, ℕ, ◌==◌, ◌||◌, Bool, true, false, Option, None, Some, List, [], ◌∷◌, ◌++◌, length, fold, refl, ◌∙◌}
use Rattle.std.specs.Prelude.{◌⊎◌, ◌&&◌, is_some, nat_le, nat_lt, option_map}
use Rattle.std.specs.List.{list_any, zip}
use Rattle.std.proofs.lemmas.Bool.{cond_both}
use Rattle.msg_ids.specs.Counters.{room}
use Rattle.service_tl.specs.declared.lists.Message.{Message}
use Rattle.service_tl.specs.declared.item.Item.{Item}
use Rattle.service_tl.specs.declared.item.Item.TheVariants.{DestroySession, GetFutureSalts, MsgsAck, Ping, RpcDropAnswer, RpcResult, NewSessionCreated, MsgsStateReq, MsgsStateInfo, MsgsAllInfo, MsgResendReq, MsgDetailedInfo, MsgNewDetailedInfo, BadMsgNotification, BadServerSalt}
use Rattle.service_tl.specs.ItemOf.{item_of}
use Rattle.service_tl.specs.Items.{spelling_of}
use Rattle.packing.specs.Packing.{is_within}
use Rattle.envelope.specs.declared.parts.Envelope.{Envelope}
use Rattle.call_table.specs.declared.call.CallNo.{CallNo}
use Rattle.call_table.specs.declared.call.Group.TheVariants as group
use Rattle.call_table.specs.Table.{Call, State, at, group_of, inner_of, owner}
use Rattle.call_table.specs.Table as table
use Rattle.client_rules.specs.Client.{Asked, Binding, Client, Needed, Temporary, States, StateRequest, after_message, at_moment, bound_so, calls_of, is_open, numbered, with_binding, with_call}
use Rattle.client_rules.specs.Learning.{ended, fate_at_end, settled_if, learn, learnt_max, learns, with_clock}
use Rattle.client_rules.specs.Sending.{Setting, binding_body}
use Rattle.client_rules.specs.Filling.{Filling, Goes, Never, Turn, Waits, asks_binding, asks_states, body_behind, changes, empty, fills, goes, is_needed, number_of, outstanding, says, says_acks, says_binding, says_call, says_call_at, says_destroyed, says_drop, says_drop_of, says_ping, says_resent, says_salts, says_states, says_told, sends_call, takes_turn, turn_of, undropped}
use Rattle.client_rules.specs.Flush.{Flushed, Marked, Spent, binding_alone, filled, first_marked, flush, has_any, remembers, remembers_lone, room_min, sends, unless_binding, unless_call}
use Rattle.client_rules.specs.Taking.{Notice, acknowledges, alone_among, alone_call, alone_number, answered_by, asks_answer, binding_answered, binding_noticed, goes_again, has_asked, is_asked_by, is_for, message_in, messages_of, noticed_by, packet_noticed, row, take, takes_message, takes_over, told_of, told_state, told_states, with_notice_clock, with_notice_salt, without_idle_wish}
use Rattle.msg_ids.specs.Counters.{is_odd}
use Rattle.client_rules.specs.Asking.{alone_if_asked, attached, is_asked}
use Rattle.client_rules.specs.Events.{renewed, takes}

-- the permanent key that its key is to be bound to
abbrev pub perm_of : Option Temporary → Option ℕ
perm_of temporary = option_map (λ (one : Temporary). one.perm) temporary

-- its key, and that one
abbrev pub Sign : Type 0
Sign = ℕ × Option ℕ

abbrev pub sign_of : Client → Sign
sign_of c = (c.key, perm_of c.temporary)

abbrev tag : Client → Bool × Sign
tag c = (c.has_ended, sign_of c)

-- it has ended exactly where the other has, and has the other's keys
abbrev pub IsAlike : Client → Client → Type 0
IsAlike one other = tag other ≡ tag one

-- whatever else becomes of a temporary key
perm_kept : (change : Temporary → Temporary) → ((one : Temporary) → (change one).perm ≡ one.perm) → (temporary : Option Temporary) → perm_of (option_map change temporary) ≡ perm_of temporary
perm_kept change so None = refl
perm_kept change so (Some one) = ap (λ (perm : ℕ). Some perm) (so one)

changed_alike : (change : Temporary → Temporary) → ((one : Temporary) → (change one).perm ≡ one.perm) → (c : Client) → IsAlike c (record c { temporary = option_map change c.temporary })
changed_alike change so c = ap (λ (perm : Option ℕ). (c.has_ended, (c.key, perm))) (perm_kept change so c.temporary)

bound_alike : (binding : Binding) (c : Client) → IsAlike c (with_binding binding c)
bound_alike binding c = changed_alike (bound_so binding) (λ one. refl) c

pub ended_as : (c d : Client) → IsAlike c d → d.has_ended ≡ c.has_ended
ended_as c d alike = ap (λ (t : Bool × Sign). t.0) alike

pub sign_as : (c d : Client) → IsAlike c d → sign_of d ≡ sign_of c
sign_as c d alike = ap (λ (t : Bool × Sign). t.1) alike

alike_then : (a b c : Client) → IsAlike a b → IsAlike b c → IsAlike a c
alike_then a b c one two = two ∙ one

-- ---- what it takes

answered_alike : (call : Option CallNo) (is_binding : Bool) (result : List ℕ) (c : Client) → IsAlike c (answered_by call is_binding result c)
answered_alike (Some call) is_binding result c = refl
answered_alike None true result c = bound_alike (binding_answered result) c
answered_alike None false result c = refl

clock_alike : (outer code : ℕ) (c : Client) → IsAlike c (with_notice_clock outer code c)
clock_alike outer code c = cond_both (code == 16 || code == 17) (with_clock outer c) c (IsAlike c) (λ is. refl) (λ is. refl)

salt_alike : (salt : Option ℕ) (c : Client) → IsAlike c (with_notice_salt salt c)
salt_alike None c = refl
salt_alike (Some salt) c = refl

over_alike : (outer : ℕ) (notice : Notice) (c : Client) → IsAlike c (takes_over outer notice c)
over_alike outer notice c =
    alike_then c (with_notice_clock outer notice.code c) (takes_over outer notice c) (clock_alike outer notice.code c) (salt_alike notice.salt (with_notice_clock outer notice.code c))

alone_alike : (call : Option CallNo) (c : Client) → IsAlike c (alone_call call c)
alone_alike None c = refl
alone_alike (Some call) c = refl

all_alone_alike : (numbers : List ℕ) (c : Client) → IsAlike c (fold alone_number c numbers)
all_alone_alike [] c = refl
all_alone_alike (number ∷ numbers) c =
    alike_then c (alone_number c number) (fold alone_number (alone_number c number) numbers) (alone_alike (owner number (calls_of c)) c) (all_alone_alike numbers (alone_number c number))

packet_alike : (numbers : List ℕ) (c : Client) → IsAlike c (packet_noticed numbers c)
packet_alike numbers c =
    let marked : Client = record c { temporary = option_map (alone_among numbers) c.temporary } in
    alike_then c marked (packet_noticed numbers c)
    (changed_alike (alone_among numbers)
    (λ one. cond_both (list_any (λ number. is_asked_by number one.binding) numbers) (record one { is_alone = true }) one (λ (t : Temporary). t.perm ≡ one.perm) (λ is. refl) (λ is. refl)) c)
    (all_alone_alike numbers marked)

noticed_alike : (call : Option CallNo) (is_binding : Bool) (packet : Option (List ℕ)) (outer : ℕ) (notice : Notice) (c : Client) → IsAlike c (noticed_by call is_binding packet outer notice c)
noticed_alike (Some call) is_binding packet outer notice c = over_alike outer notice c
noticed_alike None true packet outer notice c =
    alike_then c (takes_over outer notice c) (with_binding (binding_noticed notice.code) (takes_over outer notice c)) (over_alike outer notice c)
    (bound_alike (binding_noticed notice.code) (takes_over outer notice c))
noticed_alike None false (Some numbers) outer notice c =
    alike_then c (takes_over outer notice c) (packet_noticed numbers (takes_over outer notice c)) (over_alike outer notice c) (packet_alike numbers (takes_over outer notice c))
noticed_alike None false None outer notice c = refl

told_alike : (c : Client) (one : ℕ × ℕ) → IsAlike c (told_state c one)
told_alike c one = cond_both (goes_again one.1) (alone_number c one.0) c (IsAlike c) (λ is. alone_alike (owner one.0 (calls_of c)) c) (λ is. refl)

all_told_alike : (ones : List (ℕ × ℕ)) (c : Client) → IsAlike c (fold told_state c ones)
all_told_alike [] c = refl
all_told_alike (one ∷ ones) c = alike_then c (told_state c one) (fold told_state (told_state c one) ones) (told_alike c one) (all_told_alike ones (told_state c one))

states_alike : (numbers info : List ℕ) (c : Client) → IsAlike c (told_states numbers info c)
states_alike numbers info c = cond_both (length info == length numbers) (fold told_state c (zip numbers info)) c (IsAlike c) (λ is. all_told_alike (zip numbers info) c) (λ is. refl)

request_alike : (asked : Option StateRequest) (request : ℕ) (info : List ℕ) (c : Client) → IsAlike c (told_of asked request info c)
request_alike None request info c = refl
request_alike (Some asked) request info c = cond_both (asked.number == request) (told_states asked.numbers info c) c (IsAlike c) (λ is. states_alike asked.numbers info c) (λ is. refl)

asks_alike : (number : ℕ) (c : Client) → IsAlike c (asks_answer number c)
asks_alike number c = cond_both _ _ c (IsAlike c) (λ is. refl) (λ is. refl)

-- ---- what becomes of it

-- it goes on, or it has ended and no call is open
abbrev pub EndsDecided : Client → Type 0
EndsDecided c = (c.has_ended ≡ false) ⊎ (list_any (λ (call : Call). table.is_open call.state) (calls_of c) ≡ false)

-- and it has the other's keys
abbrev pub KeepsOn : Client → Client → Type 0
KeepsOn c d = EndsDecided d × (sign_of d ≡ sign_of c)

goes_on : (c d : Client) → IsAlike c d → c.has_ended ≡ false → KeepsOn c d
goes_on c d alike lives = (inl (ended_as c d alike ∙ lives), sign_as c d alike)

state_ended : (state : State) (call : Call) → table.is_open (settled_if (fate_at_end state) (record call { state = state })).state ≡ false
state_ended table.Queued call = refl
state_ended table.Sent call = refl
state_ended table.Held call = refl
state_ended (table.Done bytes) call = refl
state_ended (table.Refused code) call = refl
state_ended (table.Unknown cause) call = refl

all_ended : (calls : List Call) → list_any (λ (call : Call). table.is_open call.state) (map (λ call. settled_if (fate_at_end call.state) call) calls) ≡ false
all_ended [] = refl
all_ended (call ∷ calls) = rw (state_ended call.state call) (all_ended calls)

learns_so : (outer unique salt : ℕ) (c : Client) → c.has_ended ≡ false → KeepsOn c (learn outer unique salt c)
learns_so outer unique salt c lives =
    cond_both (list_any (λ learnt. learnt == unique) c.learnt) c _ (KeepsOn c) (λ is. (inl lives, refl))
    (λ is. cond_both (nat_le learnt_max (length c.learnt)) (ended c) (with_clock outer (learns unique salt c)) (KeepsOn c) (λ is. (inr (all_ended (calls_of c)), refl))
    (λ is. (inl lives, ap (λ (perm : Option ℕ). (c.key, perm)) (perm_kept (bound_so Needed) (λ one. refl) c.temporary))))

row_so : (outer number : ℕ) (item : Item) (c : Client) → c.has_ended ≡ false → KeepsOn c (row outer number item c)
row_so outer number (NewSessionCreated first unique salt) c lives = learns_so outer unique salt c lives
row_so outer number (RpcResult about result) c lives = goes_on c (row outer number (RpcResult about result) c) (answered_alike (owner about (calls_of c)) (has_asked about c.temporary) result c) lives
row_so outer number (BadMsgNotification about seq code) c lives = goes_on c (row outer number (BadMsgNotification about seq code) c) (noticed_alike (owner about (calls_of c)) (has_asked about c.temporary) (inner_of about c.table.packets) outer (record { about = about; code = code; salt = None }) c) lives
row_so outer number (BadServerSalt about seq code salt) c lives = goes_on c (row outer number (BadServerSalt about seq code salt) c) (noticed_alike (owner about (calls_of c)) (has_asked about c.temporary) (inner_of about c.table.packets) outer (record { about = about; code = 48; salt = Some salt }) c) lives
row_so outer number (MsgsStateInfo request info) c lives = goes_on c (row outer number (MsgsStateInfo request info) c) (request_alike c.asked request info c) lives
row_so outer number (MsgsAllInfo numbers info) c lives = goes_on c (row outer number (MsgsAllInfo numbers info) c) (states_alike numbers info c) lives
row_so outer number (MsgResendReq numbers) c lives = goes_on c (row outer number (MsgResendReq numbers) c) (all_alone_alike numbers c) lives
row_so outer number (MsgsStateReq numbers) c lives = goes_on c (row outer number (MsgsStateReq numbers) c) refl lives
row_so outer number (MsgDetailedInfo about answer bytes status) c lives = goes_on c (row outer number (MsgDetailedInfo about answer bytes status) c) (asks_alike answer c) lives
row_so outer number (MsgNewDetailedInfo answer bytes status) c lives = goes_on c (row outer number (MsgNewDetailedInfo answer bytes status) c) (asks_alike answer c) lives
row_so outer number _ c lives = goes_on c c refl lives

acks_alike : (message : Message) (c : Client) → IsAlike c (acknowledges message c)
acks_alike message c = cond_both (is_odd message.seq) _ c (IsAlike c) (λ is. refl) (λ is. refl)

message_so : (outer : ℕ) (first c : Client) (message : Message) → KeepsOn first c → KeepsOn first (takes_message outer c message)
message_so outer first c message h =
    let acked : Client = acknowledges message c in
    let alike = acks_alike message c in
    cond_both c.has_ended c (row outer message.number (item_of message.body) acked) (KeepsOn first) (λ is. h)
    (λ is.
    let on = row_so outer message.number (item_of message.body) acked (ended_as c acked alike ∙ is) in
    (on.0, on.1 ∙ (sign_as c acked alike ∙ h.1)))

messages_so : (outer : ℕ) (messages : List Message) (first c : Client) → KeepsOn first c → KeepsOn first (fold (takes_message outer) c messages)
messages_so outer [] first c h = h
messages_so outer (message ∷ messages) first c h = messages_so outer messages first (takes_message outer c message) (message_so outer first c message h)

take_so : (now : ℕ) (envelope : Envelope) (c : Client) → c.has_ended ≡ false → KeepsOn c (take now envelope c)
take_so now envelope c lives =
    let ready : Client = at_moment now c in
    cond_both (is_for c envelope) (without_idle_wish (fold (takes_message envelope.number) ready (messages_of (message_in envelope)))) ready (KeepsOn c)
    (λ is. messages_so envelope.number (messages_of (message_in envelope)) c ready (inl lives, refl)) (λ is. (inl lives, refl))

pub takes_so : (now : ℕ) (opened : Option Envelope) (c : Client) → c.has_ended ≡ false → KeepsOn c (takes now opened c)
takes_so now None c lives = (inl lives, refl)
takes_so now (Some envelope) c lives = take_so now envelope c lives

-- ---- what it sends

module _ {S : Type 0} (setting : Setting S) (c : Client) where
  abbrev In : Filling S → Type 0
  In filling = IsAlike c filling.client

  goes_in : (message : Message) (leaves : Filling S → Filling S) (filling : Filling S) → ((f : Filling S) → In f → In (leaves f)) → In filling → In (goes message leaves filling)
  goes_in message leaves filling so h =
      cond_both filling.is_full filling _ In (λ is. h)
      (λ is. cond_both (is_within (filling.messages ++ message ∷ [])) (leaves (record filling { messages = filling.messages ++ message ∷ [] })) (record filling { is_full = true }) In
      (λ is. so (record filling { messages = filling.messages ++ message ∷ [] }) h) (λ is. h))

  says_in : (is_content : Bool) (item : Item) (change : Client → Client) (filling : Filling S) → ((d : Client) → IsAlike d (change d)) → In filling → In (says is_content item change filling)
  says_in is_content item change filling so h =
      goes_in (numbered is_content (spelling_of item) filling.client) (changes (λ (d : Client). change (after_message is_content d))) filling (λ f k. alike_then c f.client (change (after_message is_content f.client)) k (so (after_message is_content f.client))) h

  acks_in : (acks : List ℕ) (filling : Filling S) → In filling → In (says_acks acks filling)
  acks_in [] filling h = h
  acks_in (ack ∷ acks) filling h = says_in false (MsgsAck (ack ∷ acks)) (λ (d : Client). record d { table = record d.table { acks = [] } }) filling (λ d. refl) h

  told_in : (states : Option States) (filling : Filling S) → In filling → In (says_told states filling)
  told_in None filling h = h
  told_in (Some states) filling h = says_in false (MsgsStateInfo states.request states.info) (λ (d : Client). record d { waiting = record d.waiting { told = None } }) filling (λ d. refl) h

  resent_in : (numbers : List ℕ) (filling : Filling S) → In filling → In (says_resent numbers filling)
  resent_in [] filling h = h
  resent_in (number ∷ numbers) filling h = says_in false (MsgResendReq (number ∷ numbers)) (λ (d : Client). record d { waiting = record d.waiting { resent = [] } }) filling (λ d. refl) h

  states_in : (so : Bool) (filling : Filling S) → In filling → In (says_states so filling)
  states_in false filling h = h
  states_in true filling h = says_in false (MsgsStateReq (outstanding filling.client)) (asks_states (outstanding filling.client)) filling (λ d. refl) h

  ping_in : (id : Option ℕ) (filling : Filling S) → In filling → In (says_ping id filling)
  ping_in None filling h = h
  ping_in (Some id) filling h = says_in false (Ping id) (λ (d : Client). record d { waiting = record d.waiting { ping = None } }) filling (λ d. refl) h

  salts_in : (count : Option ℕ) (filling : Filling S) → In filling → In (says_salts count filling)
  salts_in None filling h = h
  salts_in (Some count) filling h = says_in true (GetFutureSalts count) (λ (d : Client). record d { waiting = record d.waiting { salts = None } }) filling (λ d. refl) h

  destroyed_in : (session : Option ℕ) (filling : Filling S) → In filling → In (says_destroyed session filling)
  destroyed_in None filling h = h
  destroyed_in (Some session) filling h = cond_both (is_open filling.client) _ filling In (λ is. says_in true (DestroySession session) (λ (d : Client). record d { waiting = record d.waiting { destroyed = None } }) filling (λ d. refl) h) (λ is. h)

  binding_in : (temporary : Option Temporary) (filling : Filling S) → In filling → In (says_binding setting temporary filling)
  binding_in None filling h = h
  binding_in (Some temporary) filling h =
      cond_both (is_needed temporary.binding && is_open filling.client) _ filling In (λ is.
      let unsaid : Message = numbered true [] filling.client in
      let message : Message = record unsaid { body = binding_body setting filling.client temporary unsaid.number filling.draw } in
      goes_in message (asks_binding setting message) filling
      (λ f k. alike_then c f.client (with_binding (Asked message) (after_message true f.client)) k (bound_alike (Asked message) (after_message true f.client))) h) (λ is. h)

  drop_of_in : (call : CallNo) (number : Option ℕ) (filling : Filling S) → In filling → In (says_drop_of call number filling)
  drop_of_in call None filling h = h
  drop_of_in call (Some number) filling h = says_in true (RpcDropAnswer number) (with_call call undropped) filling (λ d. refl) h

  drops_in : (calls : List CallNo) (filling : Filling S) → In filling → In (fold says_drop filling calls)
  drops_in [] filling h = h
  drops_in (call ∷ calls) filling h = drops_in calls (says_drop filling call) (drop_of_in call (number_of (at call (calls_of filling.client))) filling h)

  turn_in : (call : CallNo) (body : List ℕ) (turn : Turn) (filling : Filling S) → In filling → In (takes_turn call body turn filling)
  turn_in call body (Goes wrap) filling h =
      let message : Message = numbered true (body_behind wrap body) filling.client in
      goes_in message (sends_call call wrap message) filling (λ f k. k) h
  turn_in call body Waits filling h = h
  turn_in call body Never filling h = h

  call_at_in : (number : CallNo) (call : Option Call) (filling : Filling S) → In filling → In (says_call_at number call filling)
  call_at_in number None filling h = h
  call_at_in number (Some call) filling h = turn_in number call.body (turn_of filling.client call) filling h

  calls_in : (calls : List CallNo) (filling : Filling S) → In filling → In (fold says_call filling calls)
  calls_in [] filling h = h
  calls_in (call ∷ calls) filling h =
      calls_in calls (says_call filling call)
      (cond_both filling.is_full filling (says_call_at call (at call (calls_of filling.client)) filling) In (λ is. h) (λ is. call_at_in call (at call (calls_of filling.client)) filling h))

  fills_in : (d : Client) (draw : S) → IsAlike c d → In (fills setting d draw)
  fills_in d draw h =
      calls_in (group_of group.Queued (calls_of d)) _
      (drops_in (group_of group.Dropping (calls_of d)) _
      (binding_in d.temporary _
      (destroyed_in d.waiting.destroyed _ (salts_in d.waiting.salts _ (ping_in d.waiting.ping _ (states_in d.waiting.states _
      (resent_in d.waiting.resent _ (told_in d.waiting.told _ (acks_in d.table.acks (empty d draw) h)))))))))

  call_in : (marked : Option Marked) (d : Client) (draw : S) → IsAlike c d → In (unless_call setting marked d draw)
  call_in (Some marked) d draw h = h
  call_in None d draw h = fills_in d draw h

  alone_in : (message : Option Message) (d : Client) (draw : S) → IsAlike c d → In (unless_binding setting message d draw)
  alone_in (Some message) d draw h = alike_then c d (with_binding (Asked message) d) h (bound_alike (Asked message) d)
  alone_in None d draw h = call_in (first_marked (calls_of d) (group_of group.Alone (calls_of d))) d draw h

  abbrev IsFlushed : Flushed S → Type 0
  IsFlushed done = IsAlike c done.client

  lone_alike : (number : ℕ) (inner : List ℕ) (d : Client) → IsAlike c d → IsAlike c (remembers_lone number inner d)
  lone_alike number inner d h = cond_both (is_some (owner number (calls_of d))) d (remembers number inner d) (IsAlike c) (λ is. h) (λ is. h)

  sends_in : (messages : List Message) (filling : Filling S) → In filling → IsFlushed (sends setting messages filling)
  sends_in [] filling h = h
  sends_in (message ∷ []) filling h =
      lone_alike message.number filling.inner filling.client h
  sends_in (message ∷ other ∷ messages) filling h = h

  pub flush_alike : (now : ℕ) (draw : S) → IsFlushed (flush setting now c draw)
  flush_alike now draw =
      let filling : Filling S = filled setting (at_moment now c) draw in
      let h : In filling = alone_in (binding_alone c.temporary) (at_moment now c) draw refl in
      cond_both (has_any filling.messages) _ (sends setting [] filling) IsFlushed
      (λ is. cond_both (nat_lt (room c.counters) room_min) (record { answer = Spent; client = c; draw = draw }) (sends setting filling.messages filling) IsFlushed
      (λ is. refl) (λ is. sends_in filling.messages filling h))
      (λ is. sends_in [] filling h)

-- ---- the other wishes

asked_perm : (one : Temporary) → (alone_if_asked one).perm ≡ one.perm
asked_perm one = cond_both (is_asked one.binding) (record one { is_alone = true }) one (λ (t : Temporary). t.perm ≡ one.perm) (λ is. refl) (λ is. refl)

pub attached_alike : (c : Client) → IsAlike c (attached c)
attached_alike c = changed_alike alone_if_asked asked_perm c

pub renewed_alike : (session : ℕ) (c : Client) → IsAlike c (renewed session c)
renewed_alike session c = bound_alike Needed c
