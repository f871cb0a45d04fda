-- What a flush draws: the draw behind it is some words later.
use Rattle.std.proofs.Common.{◌≡◌, ℕ, ◌+◌, ◌&&◌, Bool, true, false, Option, None, Some, List, [], ◌∷◌, ◌++◌, length, fold, refl, sym, ap, ◌∙◌}
use Rattle.std.specs.Prelude.{nat_lt}
use Rattle.std.proofs.lemmas.Bool.{cond_both}
use Rattle.draws.specs.Draws.{draw_after, words_for}
use Rattle.msg_ids.specs.Counters.{room}
use Rattle.service_tl.specs.declared.lists.Message.{Message}
use Rattle.service_tl.specs.declared.item.Item.{Item}
use Rattle.service_tl.specs.declared.item.Item.TheVariants.{DestroySession, GetFutureSalts, MsgsAck, MsgsStateInfo, MsgsStateReq, MsgResendReq, Ping, RpcDropAnswer}
use Rattle.service_tl.specs.Items.{spelling_of}
use Rattle.containers.specs.Container.{container_of}
use Rattle.packing.specs.Packing.{is_within}
use Rattle.envelope.specs.Packet.{least_padding}
use Rattle.call_table.specs.declared.call.CallNo.{CallNo}
use Rattle.call_table.specs.declared.call.Group.TheVariants as group
use Rattle.call_table.specs.Table.{Call, at, group_of}
use Rattle.client_rules.specs.Client.{Client, States, Temporary, after_message, at_moment, calls_of, is_open, numbered, with_call}
use Rattle.client_rules.specs.Sending.{Setting, binding_body}
use Rattle.client_rules.specs.Filling.{Filling, Goes, Never, Turn, Waits, asks_binding, asks_states, body_behind, changes, empty, fills, goes, is_needed, number_of, outstanding, says, says_acks, says_binding, says_call, says_call_at, says_destroyed, says_drop, says_drop_of, says_ping, says_resent, says_salts, says_states, says_told, sends_call, takes_turn, turn_of, undropped}
use Rattle.client_rules.specs.Flush.{Flushed, Marked, Spent, binding_alone, filled, first_marked, flush, has_any, room_min, sends, unless_binding, unless_call}
use Rattle.law_once.proofs.Later.{after_more}

-- some words later
pub record IsOn {S : Type 0} (step : S → ℕ × S) (before behind : S) : Type 0 where
  pub many : ℕ
  pub on : behind ≡ draw_after step many before

pub not_on : {S : Type 0} (step : S → ℕ × S) (draw : S) → IsOn step draw draw
not_on step draw = record { many = 0; on = refl }

pub on_then : {S : Type 0} (step : S → ℕ × S) (a b : S) (n : ℕ) → IsOn step a b → IsOn step a (draw_after step n b)
on_then step a b n h = record { many = h.many + n; on = ap (draw_after step n) h.on ∙ sym (after_more step h.many n a) }

module _ {S : Type 0} (setting : Setting S) (begun : S) where
  abbrev On : Filling S → Type 0
  On filling = IsOn setting.step begun filling.draw

  goes_on : (message : Message) (leaves : Filling S → Filling S) (filling : Filling S) → ((f : Filling S) → On f → On (leaves f)) → On filling → On (goes message leaves filling)
  goes_on message leaves filling so h =
      cond_both filling.is_full filling _ On (λ is. h)
      (λ is. cond_both (is_within (filling.messages ++ message ∷ [])) (leaves (record filling { messages = filling.messages ++ message ∷ [] })) (record filling { is_full = true }) On
      (λ is. so (record filling { messages = filling.messages ++ message ∷ [] }) h) (λ is. h))

  says_on : (is_content : Bool) (item : Item) (change : Client → Client) (filling : Filling S) → On filling → On (says is_content item change filling)
  says_on is_content item change filling h =
      goes_on (numbered is_content (spelling_of item) filling.client) (changes (λ (d : Client). change (after_message is_content d))) filling (λ f k. k) h

  acks_on : (acks : List ℕ) (filling : Filling S) → On filling → On (says_acks acks filling)
  acks_on [] filling h = h
  acks_on (ack ∷ acks) filling h = says_on false (MsgsAck (ack ∷ acks)) (λ (d : Client). record d { table = record d.table { acks = [] } }) filling h

  told_on : (states : Option States) (filling : Filling S) → On filling → On (says_told states filling)
  told_on None filling h = h
  told_on (Some states) filling h = says_on false (MsgsStateInfo states.request states.info) (λ (d : Client). record d { waiting = record d.waiting { told = None } }) filling h

  resent_on : (numbers : List ℕ) (filling : Filling S) → On filling → On (says_resent numbers filling)
  resent_on [] filling h = h
  resent_on (number ∷ numbers) filling h = says_on false (MsgResendReq (number ∷ numbers)) (λ (d : Client). record d { waiting = record d.waiting { resent = [] } }) filling h

  states_on : (so : Bool) (filling : Filling S) → On filling → On (says_states so filling)
  states_on false filling h = h
  states_on true filling h = says_on false (MsgsStateReq (outstanding filling.client)) (asks_states (outstanding filling.client)) filling h

  ping_on : (id : Option ℕ) (filling : Filling S) → On filling → On (says_ping id filling)
  ping_on None filling h = h
  ping_on (Some id) filling h = says_on false (Ping id) (λ (d : Client). record d { waiting = record d.waiting { ping = None } }) filling h

  salts_on : (wanted : Option ℕ) (filling : Filling S) → On filling → On (says_salts wanted filling)
  salts_on None filling h = h
  salts_on (Some wanted) filling h = says_on true (GetFutureSalts wanted) (λ (d : Client). record d { waiting = record d.waiting { salts = None } }) filling h

  destroyed_on : (session : Option ℕ) (filling : Filling S) → On filling → On (says_destroyed session filling)
  destroyed_on None filling h = h
  destroyed_on (Some session) filling h =
      cond_both (is_open filling.client) _ filling On
      (λ is. says_on true (DestroySession session) (λ (d : Client). record d { waiting = record d.waiting { destroyed = None } }) filling h) (λ is. h)

  binding_on : (temporary : Option Temporary) (filling : Filling S) → On filling → On (says_binding setting temporary filling)
  binding_on None filling h = h
  binding_on (Some temporary) filling h =
      cond_both (is_needed temporary.binding && is_open filling.client) _ filling On (λ is.
      let unsaid : Message = numbered true [] filling.client in
      let message : Message = record unsaid { body = binding_body setting filling.client temporary unsaid.number filling.draw } in
      goes_on message (asks_binding setting message) filling (λ f k. on_then setting.step begun f.draw 4 k) h) (λ is. h)

  drop_on : (call : CallNo) (number : Option ℕ) (filling : Filling S) → On filling → On (says_drop_of call number filling)
  drop_on call None filling h = h
  drop_on call (Some number) filling h = says_on true (RpcDropAnswer number) (with_call call undropped) filling h

  drops_on : (calls : List CallNo) (filling : Filling S) → On filling → On (fold says_drop filling calls)
  drops_on [] filling h = h
  drops_on (call ∷ calls) filling h = drops_on calls (says_drop filling call) (drop_on call (number_of (at call (calls_of filling.client))) filling h)

  turn_on : (call : CallNo) (body : List ℕ) (turn : Turn) (filling : Filling S) → On filling → On (takes_turn call body turn filling)
  turn_on call body (Goes wrap) filling h =
      let message : Message = numbered true (body_behind wrap body) filling.client in
      goes_on message (sends_call call wrap message) filling (λ f k. k) h
  turn_on call body Waits filling h = h
  turn_on call body Never filling h = h

  call_at_on : (number : CallNo) (call : Option Call) (filling : Filling S) → On filling → On (says_call_at number call filling)
  call_at_on number None filling h = h
  call_at_on number (Some call) filling h = turn_on number call.body (turn_of filling.client call) filling h

  calls_on : (calls : List CallNo) (filling : Filling S) → On filling → On (fold says_call filling calls)
  calls_on [] filling h = h
  calls_on (call ∷ calls) filling h =
      calls_on calls (says_call filling call)
      (cond_both filling.is_full filling (says_call_at call (at call (calls_of filling.client)) filling) On (λ is. h) (λ is. call_at_on call (at call (calls_of filling.client)) filling h))

  fills_on : (d : Client) → On (fills setting d begun)
  fills_on d =
      calls_on (group_of group.Queued (calls_of d)) _
      (drops_on (group_of group.Dropping (calls_of d)) _
      (binding_on d.temporary _
      (destroyed_on d.waiting.destroyed _ (salts_on d.waiting.salts _ (ping_on d.waiting.ping _ (states_on d.waiting.states _
      (resent_on d.waiting.resent _ (told_on d.waiting.told _ (acks_on d.table.acks (empty d begun) (not_on setting.step begun))))))))))

  call_on : (marked : Option Marked) (d : Client) → On (unless_call setting marked d begun)
  call_on (Some marked) d = not_on setting.step begun
  call_on None d = fills_on d

  alone_on : (message : Option Message) (d : Client) → On (unless_binding setting message d begun)
  alone_on (Some message) d = not_on setting.step begun
  alone_on None d = call_on (first_marked (calls_of d) (group_of group.Alone (calls_of d))) d

  abbrev IsSentOn : Flushed S → Type 0
  IsSentOn done = IsOn setting.step begun done.draw

  sends_on : (messages : List Message) (filling : Filling S) → On filling → IsSentOn (sends setting messages filling)
  sends_on [] filling h = h
  sends_on (message ∷ []) filling h = on_then setting.step begun filling.draw (words_for (least_padding (length message.body))) h
  sends_on (message ∷ other ∷ messages) filling h = on_then setting.step begun filling.draw (words_for (least_padding (length (numbered false (container_of (message ∷ other ∷ messages)) filling.client).body))) h

  pub flush_on : (now : ℕ) (c : Client) → IsOn setting.step begun (flush setting now c begun).draw
  flush_on now c =
      let filling : Filling S = filled setting (at_moment now c) begun in
      let h : On filling = alone_on (binding_alone c.temporary) (at_moment now c) in
      cond_both (has_any filling.messages) _ (sends setting [] filling) IsSentOn
      (λ is. cond_both (nat_lt (room c.counters) room_min) (record { answer = Spent; client = c; draw = begun }) (sends setting filling.messages filling) IsSentOn
      (λ is. not_on setting.step begun) (λ is. sends_on filling.messages filling h))
      (λ is. sends_on [] filling h)
