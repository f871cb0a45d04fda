-- A packet is filled: what an item leaves as it was.
use Rattle.std.proofs.Common.{◌≡◌, ◌∙◌, ℕ, zero, suc, ◌+◌, ◌-◌, Bool, true, false, List, [], ◌∷◌, ◌++◌, Option, Some, None, map, ap, refl, sym}
use Rattle.std.specs.Prelude.{◌&&◌, if◌then◌else◌, fold}
use Rattle.service_tl.specs.declared.lists.Message.{Message}
use Rattle.service_tl.specs.declared.item.Item.{Item}
use Rattle.service_tl.specs.declared.item.Item.TheVariants.{RpcDropAnswer, GetFutureSalts, Ping, DestroySession, MsgsAck, MsgsStateReq, MsgsStateInfo, MsgResendReq}
use Rattle.service_tl.specs.Items.{spelling_of}
use Rattle.packing.specs.Packing.{is_within}
use Rattle.call_table.specs.declared.call.CallNo.{CallNo}
use Rattle.call_table.specs.declared.call.Group.TheVariants as group
use Rattle.call_table.specs.Table.{Call, at, call_no, changed_at, group_of, is_in, places_from}
use Rattle.client_rules.specs.Client.{Client, States, Temporary, after_message, calls_of, is_open, numbered, with_call}
use Rattle.client_rules.specs.Sending.{Setting, binding_body}
use Rattle.client_rules.specs.Filling.{Filling, Turn, Goes as Going, Waits, Never, asks_binding, asks_states, body_behind, changes, empty, fills, goes, is_needed, number_of, outstanding, says, says_acks, says_binding, says_call, says_call_at, says_destroyed, says_drop, says_drop_of, says_ping, says_resent, says_salts, says_states, says_told, sends_call, takes_turn, turn_of, undropped}
use Rattle.client_core.specs.Draft.{drops, queue}
use Rattle.client_core.specs.Filled.{own_acks, own_binding, own_calls, own_drops, own_ping, own_resent, own_salts, own_states, own_told, waiting_said}

abbrev went : {S : Type 0} → Message → Filling S → Filling S
went message filling = record filling { messages = filling.messages ++ message ∷ [] }

abbrev picked : {X : Type 0} → Bool → Bool → X → X → X → X
picked full within stays gone fills = if full then stays else if within then gone else fills

keeps_picked : {X Y : Type 0} (tells : X → Y) (full within : Bool) (stays gone fills : X) → tells gone ≡ tells stays → tells fills ≡ tells stays
    → tells (picked full within stays gone fills) ≡ tells stays
keeps_picked tells true within stays gone fills left over = refl
keeps_picked tells false true stays gone fills left over = left
keeps_picked tells false false stays gone fills left over = over

-- what a filling tells stays where what the message leaves keeps it
pub goes_keeps : {S X : Type 0} (tells : Filling S → X) (message : Message) (leaves : Filling S → Filling S) (filling : Filling S)
    → tells (leaves (went message filling)) ≡ tells filling → tells (record filling { is_full = true }) ≡ tells filling
    → tells (goes message leaves filling) ≡ tells filling
goes_keeps tells message leaves filling left full =
    keeps_picked tells filling.is_full (is_within (filling.messages ++ message ∷ [])) filling (leaves (went message filling)) (record filling { is_full = true }) left full

pub says_keeps : {S X : Type 0} (tells : Client → X) (content : Bool) (item : Item) (change : Client → Client) (filling : Filling S)
    → ((client : Client) → tells (change (after_message content client)) ≡ tells client)
    → tells (says content item change filling).client ≡ tells filling.client
says_keeps tells content item change filling stays =
    goes_keeps (λ own. tells own.client) (numbered content (spelling_of item) filling.client) (changes (λ client. change (after_message content client))) filling (stays filling.client) refl

says_draw : {S : Type 0} (content : Bool) (item : Item) (change : Client → Client) (filling : Filling S) → (says content item change filling).draw ≡ filling.draw
says_draw content item change filling =
    goes_keeps (λ own. own.draw) (numbered content (spelling_of item) filling.client) (changes (λ client. change (after_message content client))) filling refl refl

-- ---- what waits

abbrev acked : Client → Client
acked client = record (after_message false client) { table = record client.table { acks = [] } }

abbrev told_so : Client → Client
told_so client = record (after_message false client) { waiting = record client.waiting { told = None } }

abbrev resent_so : Client → Client
resent_so client = record (after_message false client) { waiting = record client.waiting { resent = [] } }

abbrev asked_so : List ℕ → Client → Client
asked_so numbers client = asks_states numbers (after_message false client)

abbrev pinged_so : Client → Client
pinged_so client = record (after_message false client) { waiting = record client.waiting { ping = None } }

abbrev salted_so : Client → Client
salted_so client = record (after_message true client) { waiting = record client.waiting { salts = None } }

abbrev destroyed_so : Client → Client
destroyed_so client = record (after_message true client) { waiting = record client.waiting { destroyed = None } }

acks_keep : {S X : Type 0} (tells : Client → X) → ((client : Client) → tells (acked client) ≡ tells client)
    → (own : List ℕ) (filling : Filling S) → tells (says_acks own filling).client ≡ tells filling.client
acks_keep tells stays [] filling = refl
acks_keep tells stays (number ∷ numbers) filling =
    says_keeps tells false (MsgsAck (number ∷ numbers)) (λ client. record client { table = record client.table { acks = [] } }) filling stays

told_keep : {S X : Type 0} (tells : Client → X) → ((client : Client) → tells (told_so client) ≡ tells client)
    → (own : Option States) (filling : Filling S) → tells (says_told own filling).client ≡ tells filling.client
told_keep tells stays None filling = refl
told_keep tells stays (Some states) filling =
    says_keeps tells false (MsgsStateInfo states.request states.info) (λ client. record client { waiting = record client.waiting { told = None } }) filling stays

resent_keep : {S X : Type 0} (tells : Client → X) → ((client : Client) → tells (resent_so client) ≡ tells client)
    → (own : List ℕ) (filling : Filling S) → tells (says_resent own filling).client ≡ tells filling.client
resent_keep tells stays [] filling = refl
resent_keep tells stays (number ∷ numbers) filling =
    says_keeps tells false (MsgResendReq (number ∷ numbers)) (λ client. record client { waiting = record client.waiting { resent = [] } }) filling stays

states_keep : {S X : Type 0} (tells : Client → X) → ((numbers : List ℕ) (client : Client) → tells (asked_so numbers client) ≡ tells client)
    → (own : Bool) (filling : Filling S) → tells (says_states own filling).client ≡ tells filling.client
states_keep tells stays false filling = refl
states_keep tells stays true filling =
    says_keeps tells false (MsgsStateReq (outstanding filling.client)) (asks_states (outstanding filling.client)) filling (stays (outstanding filling.client))

ping_keep : {S X : Type 0} (tells : Client → X) → ((client : Client) → tells (pinged_so client) ≡ tells client)
    → (own : Option ℕ) (filling : Filling S) → tells (says_ping own filling).client ≡ tells filling.client
ping_keep tells stays None filling = refl
ping_keep tells stays (Some id) filling =
    says_keeps tells false (Ping id) (λ client. record client { waiting = record client.waiting { ping = None } }) filling stays

salts_keep : {S X : Type 0} (tells : Client → X) → ((client : Client) → tells (salted_so client) ≡ tells client)
    → (own : Option ℕ) (filling : Filling S) → tells (says_salts own filling).client ≡ tells filling.client
salts_keep tells stays None filling = refl
salts_keep tells stays (Some count) filling =
    says_keeps tells true (GetFutureSalts count) (λ client. record client { waiting = record client.waiting { salts = None } }) filling stays

pub keeps_if : {X Y : Type 0} (tells : X → Y) (b : Bool) (gone stays : X) → tells gone ≡ tells stays → tells (if b then gone else stays) ≡ tells stays
keeps_if tells true gone stays left = left
keeps_if tells false gone stays left = refl

destroyed_keep : {S X : Type 0} (tells : Client → X) → ((client : Client) → tells (destroyed_so client) ≡ tells client)
    → (own : Option ℕ) (filling : Filling S) → tells (says_destroyed own filling).client ≡ tells filling.client
destroyed_keep tells stays None filling = refl
destroyed_keep tells stays (Some session) filling =
    let change = λ (client : Client). record client { waiting = record client.waiting { destroyed = None } } in
    keeps_if (λ own. tells own.client) (is_open filling.client) (says true (DestroySession session) change filling) filling
    (says_keeps tells true (DestroySession session) change filling stays)

after_acks : {S X : Type 0} (tells : Client → X) → ((client : Client) → tells (acked client) ≡ tells client) → (filling : Filling S) → tells (own_acks filling).client ≡ tells filling.client
after_acks tells one filling = acks_keep tells one filling.client.table.acks filling

after_told : {S X : Type 0} (tells : Client → X) → ((client : Client) → tells (acked client) ≡ tells client) → ((client : Client) → tells (told_so client) ≡ tells client)
    → (filling : Filling S) → tells (own_told (own_acks filling)).client ≡ tells filling.client
after_told tells one two filling =
    let before = own_acks filling in
    told_keep tells two before.client.waiting.told before ∙ after_acks tells one filling

after_resent : {S X : Type 0} (tells : Client → X) → ((client : Client) → tells (acked client) ≡ tells client) → ((client : Client) → tells (told_so client) ≡ tells client)
    → ((client : Client) → tells (resent_so client) ≡ tells client)
    → (filling : Filling S) → tells (own_resent (own_told (own_acks filling))).client ≡ tells filling.client
after_resent tells one two three filling =
    let before = own_told (own_acks filling) in
    resent_keep tells three before.client.waiting.resent before ∙ after_told tells one two filling

after_states : {S X : Type 0} (tells : Client → X) → ((client : Client) → tells (acked client) ≡ tells client) → ((client : Client) → tells (told_so client) ≡ tells client)
    → ((client : Client) → tells (resent_so client) ≡ tells client) → ((numbers : List ℕ) (client : Client) → tells (asked_so numbers client) ≡ tells client)
    → (filling : Filling S) → tells (own_states (own_resent (own_told (own_acks filling)))).client ≡ tells filling.client
after_states tells one two three four filling =
    let before = own_resent (own_told (own_acks filling)) in
    states_keep tells four before.client.waiting.states before ∙ after_resent tells one two three filling

after_ping : {S X : Type 0} (tells : Client → X) → ((client : Client) → tells (acked client) ≡ tells client) → ((client : Client) → tells (told_so client) ≡ tells client)
    → ((client : Client) → tells (resent_so client) ≡ tells client) → ((numbers : List ℕ) (client : Client) → tells (asked_so numbers client) ≡ tells client)
    → ((client : Client) → tells (pinged_so client) ≡ tells client)
    → (filling : Filling S) → tells (own_ping (own_states (own_resent (own_told (own_acks filling))))).client ≡ tells filling.client
after_ping tells one two three four five filling =
    let before = own_states (own_resent (own_told (own_acks filling))) in
    ping_keep tells five before.client.waiting.ping before ∙ after_states tells one two three four filling

after_salts : {S X : Type 0} (tells : Client → X) → ((client : Client) → tells (acked client) ≡ tells client) → ((client : Client) → tells (told_so client) ≡ tells client)
    → ((client : Client) → tells (resent_so client) ≡ tells client) → ((numbers : List ℕ) (client : Client) → tells (asked_so numbers client) ≡ tells client)
    → ((client : Client) → tells (pinged_so client) ≡ tells client) → ((client : Client) → tells (salted_so client) ≡ tells client)
    → (filling : Filling S) → tells (own_salts (own_ping (own_states (own_resent (own_told (own_acks filling)))))).client ≡ tells filling.client
after_salts tells one two three four five six filling =
    let before = own_ping (own_states (own_resent (own_told (own_acks filling)))) in
    salts_keep tells six before.client.waiting.salts before ∙ after_ping tells one two three four five filling

pub after_waiting : {S X : Type 0} (tells : Client → X) → ((client : Client) → tells (acked client) ≡ tells client) → ((client : Client) → tells (told_so client) ≡ tells client)
    → ((client : Client) → tells (resent_so client) ≡ tells client) → ((numbers : List ℕ) (client : Client) → tells (asked_so numbers client) ≡ tells client)
    → ((client : Client) → tells (pinged_so client) ≡ tells client) → ((client : Client) → tells (salted_so client) ≡ tells client)
    → ((client : Client) → tells (destroyed_so client) ≡ tells client)
    → (filling : Filling S) → tells (waiting_said filling).client ≡ tells filling.client
after_waiting tells one two three four five six seven filling =
    let before = own_salts (own_ping (own_states (own_resent (own_told (own_acks filling))))) in
    destroyed_keep tells seven before.client.waiting.destroyed before ∙ after_salts tells one two three four five six filling

-- it is what waited at first
waiting_is : {S : Type 0} (filling : Filling S) → waiting_said filling
    ≡ says_destroyed filling.client.waiting.destroyed (says_salts filling.client.waiting.salts (says_ping filling.client.waiting.ping
    (says_states filling.client.waiting.states (says_resent filling.client.waiting.resent (says_told filling.client.waiting.told
    (says_acks filling.client.table.acks filling))))))
waiting_is filling =
    let w = filling.client.waiting in
    let f1 = own_acks filling in
    let f2 = own_told f1 in
    let f3 = own_resent f2 in
    let f4 = own_states f3 in
    let f5 = own_ping f4 in
    let f6 = own_salts f5 in
    let e2 = ap (λ own. says_told own f1) (after_acks (λ client. client.waiting.told) (λ client. refl) filling) in
    let e3 = ap (λ own. says_resent own f2) (after_told (λ client. client.waiting.resent) (λ client. refl) (λ client. refl) filling) ∙ ap (says_resent w.resent) e2 in
    let e4 = ap (λ own. says_states own f3) (after_resent (λ client. client.waiting.states) (λ client. refl) (λ client. refl) (λ client. refl) filling) ∙ ap (says_states w.states) e3 in
    let e5 = ap (λ own. says_ping own f4) (after_states (λ client. client.waiting.ping) (λ client. refl) (λ client. refl) (λ client. refl) (λ numbers client. refl) filling) ∙ ap (says_ping w.ping) e4 in
    let e6 = ap (λ own. says_salts own f5) (after_ping (λ client. client.waiting.salts) (λ client. refl) (λ client. refl) (λ client. refl) (λ numbers client. refl) (λ client. refl) filling) ∙ ap (says_salts w.salts) e5 in
    ap (λ own. says_destroyed own f6) (after_salts (λ client. client.waiting.destroyed) (λ client. refl) (λ client. refl) (λ client. refl) (λ numbers client. refl) (λ client. refl) (λ client. refl) filling) ∙ ap (says_destroyed w.destroyed) e6

-- ---- what is drawn

acks_draw : {S : Type 0} (own : List ℕ) (filling : Filling S) → (says_acks own filling).draw ≡ filling.draw
acks_draw [] filling = refl
acks_draw (number ∷ numbers) filling = says_draw false (MsgsAck (number ∷ numbers)) (λ client. record client { table = record client.table { acks = [] } }) filling

told_draw : {S : Type 0} (own : Option States) (filling : Filling S) → (says_told own filling).draw ≡ filling.draw
told_draw None filling = refl
told_draw (Some states) filling = says_draw false (MsgsStateInfo states.request states.info) (λ client. record client { waiting = record client.waiting { told = None } }) filling

resent_draw : {S : Type 0} (own : List ℕ) (filling : Filling S) → (says_resent own filling).draw ≡ filling.draw
resent_draw [] filling = refl
resent_draw (number ∷ numbers) filling = says_draw false (MsgResendReq (number ∷ numbers)) (λ client. record client { waiting = record client.waiting { resent = [] } }) filling

states_draw : {S : Type 0} (own : Bool) (filling : Filling S) → (says_states own filling).draw ≡ filling.draw
states_draw false filling = refl
states_draw true filling = says_draw false (MsgsStateReq (outstanding filling.client)) (asks_states (outstanding filling.client)) filling

ping_draw : {S : Type 0} (own : Option ℕ) (filling : Filling S) → (says_ping own filling).draw ≡ filling.draw
ping_draw None filling = refl
ping_draw (Some id) filling = says_draw false (Ping id) (λ client. record client { waiting = record client.waiting { ping = None } }) filling

salts_draw : {S : Type 0} (own : Option ℕ) (filling : Filling S) → (says_salts own filling).draw ≡ filling.draw
salts_draw None filling = refl
salts_draw (Some count) filling = says_draw true (GetFutureSalts count) (λ client. record client { waiting = record client.waiting { salts = None } }) filling

destroyed_draw : {S : Type 0} (own : Option ℕ) (filling : Filling S) → (says_destroyed own filling).draw ≡ filling.draw
destroyed_draw None filling = refl
destroyed_draw (Some session) filling =
    let change = λ (client : Client). record client { waiting = record client.waiting { destroyed = None } } in
    keeps_if (λ own. own.draw) (is_open filling.client) (says true (DestroySession session) change filling) filling (says_draw true (DestroySession session) change filling)

pub waiting_draw : {S : Type 0} (filling : Filling S) → (waiting_said filling).draw ≡ filling.draw
waiting_draw filling =
    let f1 = own_acks filling in
    let f2 = own_told f1 in
    let f3 = own_resent f2 in
    let f4 = own_states f3 in
    let f5 = own_ping f4 in
    let f6 = own_salts f5 in
    destroyed_draw f6.client.waiting.destroyed f6 ∙ (salts_draw f5.client.waiting.salts f5 ∙ (ping_draw f4.client.waiting.ping f4 ∙ (states_draw f3.client.waiting.states f3
    ∙ (resent_draw f2.client.waiting.resent f2 ∙ (told_draw f1.client.waiting.told f1 ∙ acks_draw filling.client.table.acks filling)))))

drop_draw : {S : Type 0} (call : CallNo) (own : Option ℕ) (filling : Filling S) → (says_drop_of call own filling).draw ≡ filling.draw
drop_draw call None filling = refl
drop_draw call (Some number) filling = says_draw true (RpcDropAnswer number) (with_call call undropped) filling

drops_draw : {S : Type 0} (filling : Filling S) (calls : List CallNo) → (fold says_drop filling calls).draw ≡ filling.draw
drops_draw filling [] = refl
drops_draw filling (call ∷ calls) = drops_draw (says_drop filling call) calls ∙ drop_draw call (number_of (at call (calls_of filling.client))) filling

turn_draw : {S : Type 0} (call : CallNo) (body : List ℕ) (turn : Turn) (filling : Filling S) → (takes_turn call body turn filling).draw ≡ filling.draw
turn_draw call body (Going wrap) filling =
    let message = numbered true (body_behind wrap body) filling.client in
    goes_keeps (λ own. own.draw) message (sends_call call wrap message) filling refl refl
turn_draw call body Waits filling = refl
turn_draw call body Never filling = refl

call_at_draw : {S : Type 0} (call : CallNo) (own : Option Call) (filling : Filling S) → (says_call_at call own filling).draw ≡ filling.draw
call_at_draw call None filling = refl
call_at_draw call (Some one) filling = turn_draw call one.body (turn_of filling.client one) filling

pub stays_if : {X Y : Type 0} (tells : X → Y) (b : Bool) (stays gone : X) → tells gone ≡ tells stays → tells (if b then stays else gone) ≡ tells stays
stays_if tells true stays gone left = refl
stays_if tells false stays gone left = left

call_draw : {S : Type 0} (filling : Filling S) (call : CallNo) → (says_call filling call).draw ≡ filling.draw
call_draw filling call =
    let own = at call (calls_of filling.client) in
    stays_if (λ other. other.draw) filling.is_full filling (says_call_at call own filling) (call_at_draw call own filling)

pub calls_draw : {S : Type 0} (filling : Filling S) (calls : List CallNo) → (fold says_call filling calls).draw ≡ filling.draw
calls_draw filling [] = refl
calls_draw filling (call ∷ calls) = calls_draw (says_call filling call) calls ∙ call_draw filling call

-- ---- which calls

binding_calls : {S : Type 0} (setting : Setting S) (own : Option Temporary) (filling : Filling S) → calls_of (says_binding setting own filling).client ≡ calls_of filling.client
binding_calls setting None filling = refl
binding_calls setting (Some temporary) filling =
    let unsaid = numbered true [] filling.client in
    let message : Message = record unsaid { body = binding_body setting filling.client temporary unsaid.number filling.draw } in
    keeps_if (λ other. calls_of other.client) (is_needed temporary.binding && is_open filling.client) (goes message (asks_binding setting message) filling) filling
    (goes_keeps (λ other. calls_of other.client) message (asks_binding setting message) filling refl refl)

same_places : {X : Type 0} (test : X → Bool) (f : X → X) → ((x : X) → test (f x) ≡ test x) → (place k : ℕ) (xs : List X)
    → places_from test place (changed_at k f xs) ≡ places_from test place xs
same_places test f same place k [] = refl
same_places test f same place zero (x ∷ xs) = ap (λ b. if b then place ∷ places_from test (place + 1) xs else places_from test (place + 1) xs) (same x)
same_places test f same place (suc k) (x ∷ xs) = ap (λ others. if test x then place ∷ others else others) (same_places test f same (place + 1) k xs)

drop_queue : {S : Type 0} (call : CallNo) (own : Option ℕ) (filling : Filling S) → queue (says_drop_of call own filling) ≡ queue filling
drop_queue call None filling = refl
drop_queue call (Some number) filling =
    says_keeps (λ client. group_of group.Queued (calls_of client)) true (RpcDropAnswer number) (with_call call undropped) filling
    (λ client. ap (map call_no) (same_places (is_in group.Queued) undropped (λ one. refl) 0 (call.n - 1) (calls_of client)))

drops_queue : {S : Type 0} (filling : Filling S) (calls : List CallNo) → queue (fold says_drop filling calls) ≡ queue filling
drops_queue filling [] = refl
drops_queue filling (call ∷ calls) = drops_queue (says_drop filling call) calls ∙ drop_queue call (number_of (at call (calls_of filling.client))) filling

-- ---- all of it

-- it is the definition's packet
pub fills_is : {S : Type 0} (setting : Setting S) (client : Client) (draw : S)
    → own_calls (own_drops (own_binding setting (waiting_said (empty client draw)))) ≡ fills setting client draw
fills_is setting client draw =
    let first = empty client draw in
    let f7 = waiting_said first in
    let e7 = waiting_is first in
    let calls7 : calls_of f7.client ≡ calls_of client =
    after_waiting calls_of (λ one. refl) (λ one. refl) (λ one. refl) (λ numbers one. refl) (λ one. refl) (λ one. refl) (λ one. refl) first in
    let held7 : f7.client.temporary ≡ client.temporary =
    after_waiting (λ one. one.temporary) (λ one. refl) (λ one. refl) (λ one. refl) (λ numbers one. refl) (λ one. refl) (λ one. refl) (λ one. refl) first in
    let f8 = own_binding setting f7 in
    let e8 = ap (λ own. says_binding setting own f7) held7 ∙ ap (says_binding setting client.temporary) e7 in
    let calls8 : calls_of f8.client ≡ calls_of client = binding_calls setting f7.client.temporary f7 ∙ calls7 in
    let f9 = own_drops f8 in
    let e9 = ap (λ own. fold says_drop f8 (group_of group.Dropping own)) calls8 ∙ ap (λ own. fold says_drop own (group_of group.Dropping (calls_of client))) e8 in
    let queue9 : queue f9 ≡ group_of group.Queued (calls_of client) = drops_queue f8 (drops f8) ∙ ap (group_of group.Queued) calls8 in
    ap (fold says_call f9) queue9 ∙ ap (λ own. fold says_call own (group_of group.Queued (calls_of client))) e9

-- and draws what the binding draws
pub fills_draw : {S : Type 0} (setting : Setting S) (client : Client) (draw : S)
    → (fills setting client draw).draw ≡ (own_binding setting (waiting_said (empty client draw))).draw
fills_draw setting client draw =
    let f8 = own_binding setting (waiting_said (empty client draw)) in
    let f9 = own_drops f8 in
    ap (λ own. own.draw) (sym (fills_is setting client draw)) ∙ (calls_draw f9 (queue f9) ∙ drops_draw f8 (drops f8))
