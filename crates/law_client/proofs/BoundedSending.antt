-- A flush leaves the salt and the learnt numbers, and remembers at most one packet more.
use Rattle.std.proofs.Common.{◌≡◌, ◌≤◌, ◌-◌, ◌&&◌, ℕ, Bool, true, false, List, [], ◌∷◌, ◌++◌, fold, length, Option, None, Some, if◌then◌else◌, refl, subst, sym, arith}
use Rattle.std.specs.Prelude.{is_some, nat_lt}
use Rattle.std.proofs.lemmas.List.{length-drop}
use Rattle.service_tl.specs.declared.lists.Message.{Message}
use Rattle.service_tl.specs.declared.item.Item.{Item}
use Rattle.service_tl.specs.declared.item.Item.TheVariants.{DestroySession, GetFutureSalts, MsgResendReq, MsgsAck, MsgsStateInfo, MsgsStateReq, Ping, RpcDropAnswer}
use Rattle.service_tl.specs.Items.{spelling_of}
use Rattle.containers.specs.Container.{container_of}
use Rattle.msg_ids.specs.Counters.{room}
use Rattle.packing.specs.Packing.{is_within}
use Rattle.call_table.specs.declared.call.CallNo.{CallNo}
use Rattle.call_table.specs.declared.call.Group.TheVariants as group
use Rattle.call_table.specs.declared.packet.Packet.{Packet}
use Rattle.call_table.specs.Table.{Call, at, group_of, newest, owner}
use Rattle.client_rules.specs.Client.{Client, Temporary, States, after_message, at_moment, calls_of, is_open, numbered, with_call}
use Rattle.client_rules.specs.Sending.{Setting, binding_body}
use Rattle.client_rules.specs.Filling.{Filling, Goes, Never, Turn, Waits, asks_binding, asks_states, body_behind, changes, empty, fills, goes, is_needed, number_of, outstanding, says, says_acks, says_binding, says_call, says_call_at, says_destroyed, says_drop, says_drop_of, says_ping, says_resent, says_salts, says_states, says_told, sends_call, takes_turn, turn_of, undropped}
use Rattle.client_rules.specs.Flush.{Marked, binding_alone, filled, first_marked, flush, gone_again, has_any, remembers, remembers_lone, room_min, sends, unless_binding, unless_call}
use Rattle.client_rules.specs.Flush as flushes
use Rattle.law_client.proofs.Keeping.{Keeps, both, if-so, stays}

-- ---- a packet that is filled

module _ {S : Type 0} (client : Client) where
  abbrev KeepsIn : Filling S → Type 0
  KeepsIn filling = Keeps client filling.client

  goes-keeps : (message : Message) (leaves : Filling S → Filling S) (filling : Filling S) → KeepsIn filling
      → KeepsIn (leaves (record filling { messages = filling.messages ++ message ∷ [] })) → KeepsIn (goes message leaves filling)
  goes-keeps message leaves filling before after =
      if-so KeepsIn filling.is_full filling
      (if is_within (filling.messages ++ message ∷ []) then leaves (record filling { messages = filling.messages ++ message ∷ [] }) else record filling { is_full = true })
      before
      (if-so KeepsIn (is_within (filling.messages ++ message ∷ [])) (leaves (record filling { messages = filling.messages ++ message ∷ [] })) (record filling { is_full = true }) after before)

  says-keeps : (is_content : Bool) (item : Item) (change : Client → Client) (filling : Filling S) → ((one : Client) → Keeps one (change one)) → KeepsIn filling
      → KeepsIn (says is_content item change filling)
  says-keeps is_content item change filling so before =
      let now : Client = after_message is_content filling.client in
      let k = so now in
      goes-keeps (numbered is_content (spelling_of item) filling.client) (changes (λ (one : Client). change (after_message is_content one))) filling before
      (both client now (change now) (record { learnt = before.learnt; salt = before.salt; packets = before.packets }) k)

  acks-keep : (acks : List ℕ) (filling : Filling S) → KeepsIn filling → KeepsIn (says_acks acks filling)
  acks-keep [] filling h = h
  acks-keep (ack ∷ acks) filling h =
      says-keeps false (MsgsAck (ack ∷ acks)) (λ (one : Client). record one { table = record one.table { acks = [] } }) filling
      (λ one. record { learnt = refl; salt = refl; packets = refl }) h

  told-keeps : (told : Option States) (filling : Filling S) → KeepsIn filling → KeepsIn (says_told told filling)
  told-keeps None filling h = h
  told-keeps (Some states) filling h =
      says-keeps false (MsgsStateInfo states.request states.info) (λ (one : Client). record one { waiting = record one.waiting { told = None } }) filling
      (λ one. record { learnt = refl; salt = refl; packets = refl }) h

  resent-keeps : (numbers : List ℕ) (filling : Filling S) → KeepsIn filling → KeepsIn (says_resent numbers filling)
  resent-keeps [] filling h = h
  resent-keeps (number ∷ numbers) filling h =
      says-keeps false (MsgResendReq (number ∷ numbers)) (λ (one : Client). record one { waiting = record one.waiting { resent = [] } }) filling
      (λ one. record { learnt = refl; salt = refl; packets = refl }) h

  states-keep : (wish : Bool) (filling : Filling S) → KeepsIn filling → KeepsIn (says_states wish filling)
  states-keep false filling h = h
  states-keep true filling h =
      says-keeps false (MsgsStateReq (outstanding filling.client)) (asks_states (outstanding filling.client)) filling
      (λ one. record { learnt = refl; salt = refl; packets = refl }) h

  ping-keeps : (ping : Option ℕ) (filling : Filling S) → KeepsIn filling → KeepsIn (says_ping ping filling)
  ping-keeps None filling h = h
  ping-keeps (Some id) filling h =
      says-keeps false (Ping id) (λ (one : Client). record one { waiting = record one.waiting { ping = None } }) filling
      (λ one. record { learnt = refl; salt = refl; packets = refl }) h

  salts-keep : (count : Option ℕ) (filling : Filling S) → KeepsIn filling → KeepsIn (says_salts count filling)
  salts-keep None filling h = h
  salts-keep (Some count) filling h =
      says-keeps true (GetFutureSalts count) (λ (one : Client). record one { waiting = record one.waiting { salts = None } }) filling
      (λ one. record { learnt = refl; salt = refl; packets = refl }) h

  destroyed-keeps : (session : Option ℕ) (filling : Filling S) → KeepsIn filling → KeepsIn (says_destroyed session filling)
  destroyed-keeps None filling h = h
  destroyed-keeps (Some session) filling h =
      if-so KeepsIn (is_open filling.client) (says true (DestroySession session) (λ (one : Client). record one { waiting = record one.waiting { destroyed = None } }) filling) filling
      (says-keeps true (DestroySession session) (λ (one : Client). record one { waiting = record one.waiting { destroyed = None } }) filling
      (λ one. record { learnt = refl; salt = refl; packets = refl }) h) h

  binding-keeps : (setting : Setting S) (temporary : Option Temporary) (filling : Filling S) → KeepsIn filling → KeepsIn (says_binding setting temporary filling)
  binding-keeps setting None filling h = h
  binding-keeps setting (Some temporary) filling h =
      let unsaid : Message = numbered true [] filling.client in
      let message : Message = record unsaid { body = binding_body setting filling.client temporary unsaid.number filling.draw } in
      if-so KeepsIn (is_needed temporary.binding && is_open filling.client) (goes message (asks_binding setting message) filling) filling
      (goes-keeps message (asks_binding setting message) filling h (record { learnt = h.learnt; salt = h.salt; packets = h.packets })) h

  drop-keeps : (call : CallNo) (number : Option ℕ) (filling : Filling S) → KeepsIn filling → KeepsIn (says_drop_of call number filling)
  drop-keeps call None filling h = h
  drop-keeps call (Some number) filling h =
      says-keeps true (RpcDropAnswer number) (with_call call undropped) filling (λ one. record { learnt = refl; salt = refl; packets = refl }) h

  drops-keep : (calls : List CallNo) (filling : Filling S) → KeepsIn filling → KeepsIn (fold says_drop filling calls)
  drops-keep [] filling h = h
  drops-keep (call ∷ calls) filling h =
      drops-keep calls (says_drop filling call) (drop-keeps call (number_of (at call (calls_of filling.client))) filling h)

  turn-keeps : (call : CallNo) (body : List ℕ) (turn : Turn) (filling : Filling S) → KeepsIn filling → KeepsIn (takes_turn call body turn filling)
  turn-keeps call body (Goes wrap) filling h =
      let message : Message = numbered true (body_behind wrap body) filling.client in
      goes-keeps message (sends_call call wrap message) filling h (record { learnt = h.learnt; salt = h.salt; packets = h.packets })
  turn-keeps call body Waits filling h = h
  turn-keeps call body Never filling h = record { learnt = h.learnt; salt = h.salt; packets = h.packets }

  call-keeps : (number : CallNo) (call : Option Call) (filling : Filling S) → KeepsIn filling → KeepsIn (says_call_at number call filling)
  call-keeps number None filling h = h
  call-keeps number (Some call) filling h = turn-keeps number call.body (turn_of filling.client call) filling h

  calls-keep : (calls : List CallNo) (filling : Filling S) → KeepsIn filling → KeepsIn (fold says_call filling calls)
  calls-keep [] filling h = h
  calls-keep (call ∷ calls) filling h =
      calls-keep calls (says_call filling call)
      (if-so KeepsIn filling.is_full filling (says_call_at call (at call (calls_of filling.client)) filling) h (call-keeps call (at call (calls_of filling.client)) filling h))

  fills-keeps : (setting : Setting S) (draw : S) → KeepsIn (fills setting client draw)
  fills-keeps setting draw =
      let waiting = client.waiting in
      let first : Filling S = empty client draw in
      let one = says_acks client.table.acks first in
      let two = says_told waiting.told one in
      let three = says_resent waiting.resent two in
      let four = says_states waiting.states three in
      let five = says_ping waiting.ping four in
      let six = says_salts waiting.salts five in
      let seven = says_destroyed waiting.destroyed six in
      let bound = says_binding setting client.temporary seven in
      calls-keep (group_of group.Queued (calls_of client)) (fold says_drop bound (group_of group.Dropping (calls_of client)))
      (drops-keep (group_of group.Dropping (calls_of client)) bound
      (binding-keeps setting client.temporary seven
      (destroyed-keeps waiting.destroyed six
      (salts-keep waiting.salts five
      (ping-keeps waiting.ping four
      (states-keep waiting.states three
      (resent-keeps waiting.resent two
      (told-keeps waiting.told one
      (acks-keep client.table.acks first (stays client))))))))))

  alone-keeps : (setting : Setting S) (marked : Option Marked) (draw : S) → KeepsIn (unless_call setting marked client draw)
  alone-keeps setting None draw = fills-keeps setting draw
  alone-keeps setting (Some marked) draw = record { learnt = refl; salt = refl; packets = refl }

  bound-keeps : (setting : Setting S) (message : Option Message) (draw : S) → KeepsIn (unless_binding setting message client draw)
  bound-keeps setting None draw = alone-keeps setting (first_marked (calls_of client) (group_of group.Alone (calls_of client))) draw
  bound-keeps setting (Some message) draw = record { learnt = refl; salt = refl; packets = refl }

  filled-keeps : (setting : Setting S) (draw : S) → KeepsIn (filled setting client draw)
  filled-keeps setting draw = bound-keeps setting (binding_alone client.temporary) draw

-- ---- the packet is remembered

-- salt and learnt numbers stay, and few packets stay few
pub record Flows (one other : Client) : Type 0 where
  pub learnt : other.learnt ≡ one.learnt
  pub salt : other.salt ≡ one.salt
  pub packets : length one.table.packets ≤ 64 → length other.table.packets ≤ 64

pub flows-so : (one other : Client) → Keeps one other → Flows one other
flows-so one other h = record {
  learnt = h.learnt;
  salt = h.salt;
  packets = λ few. subst (λ (packets : List Packet). length packets ≤ 64) (sym h.packets) few;
}

few-newest : {X : Type 0} (xs : List X) → length (newest 64 xs) ≤ 64
few-newest xs = let is = length-drop (length xs - 64) xs in omega (arith, is)

remembers-flows : (outer : ℕ) (inner : List ℕ) (one other : Client) → Keeps one other → Flows one (remembers outer inner other)
remembers-flows outer inner one other h = record {
  learnt = h.learnt;
  salt = h.salt;
  packets = λ few. few-newest (other.table.packets ++ record { outer = outer; inner = inner } ∷ []);
}

sends-flows : {S : Type 0} (setting : Setting S) (one : Client) (messages : List Message) (filling : Filling S) → Keeps one filling.client
    → Flows one (sends setting messages filling).client
sends-flows setting one [] filling h = flows-so one filling.client h
sends-flows setting one (message ∷ []) filling h =
    if-so (Flows one) (is_some (owner message.number (calls_of filling.client))) filling.client (remembers message.number filling.inner filling.client)
    (flows-so one filling.client h) (remembers-flows message.number filling.inner one filling.client h)
sends-flows setting one (message ∷ second ∷ messages) filling h =
    let outer : Message = numbered false (container_of (message ∷ second ∷ messages)) filling.client in
    remembers-flows outer.number filling.inner one (after_message false filling.client) (record { learnt = h.learnt; salt = h.salt; packets = h.packets })

module _ {S : Type 0} (setting : Setting S) (now : ℕ) (client : Client) (draw : S) where
  abbrev FlowsTo : flushes.Flushed S → Type 0
  FlowsTo done = Flows client done.client

  pub flush-flows : Flows client (flush setting now client draw).client
  flush-flows =
      let ready : Client = at_moment now client in
      let filling : Filling S = filled setting ready draw in
      let k = filled-keeps ready setting draw in
      let h : Keeps client filling.client = record { learnt = k.learnt; salt = k.salt; packets = k.packets } in
      let same : Flows client client = record { learnt = refl; salt = refl; packets = λ few. few } in
      if-so FlowsTo (has_any filling.messages)
      (if nat_lt (room client.counters) room_min then record { answer = flushes.Spent; client = client; draw = draw } else sends setting filling.messages filling)
      (sends setting [] filling)
      (if-so FlowsTo (nat_lt (room client.counters) room_min) (record { answer = flushes.Spent; client = client; draw = draw }) (sends setting filling.messages filling)
      same (sends-flows setting client filling.messages filling h))
      (sends-flows setting client [] filling h)
