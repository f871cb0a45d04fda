-- A flush leaves a client's keys, its session and how many calls there are as they were.
use Rattle.std.proofs.Common.{◌≡◌, ◌∙◌, ℕ, Bool, true, false, List, [], ◌∷◌, Option, Some, None, ap, refl, sym}
use Rattle.std.specs.Prelude.{◌&&◌, if◌then◌else◌, is_some, nat_lt, fold}
use Rattle.service_tl.specs.declared.lists.Message.{Message}
use Rattle.service_tl.specs.declared.item.Item.TheVariants.{RpcDropAnswer}
use Rattle.msg_ids.specs.Counters.{room}
use Rattle.call_table.specs.declared.call.CallNo.{CallNo}
use Rattle.call_table.specs.declared.call.Fate.TheVariants as fate
use Rattle.call_table.specs.declared.call.Group.TheVariants.{Alone}
use Rattle.call_table.specs.Table.{Call, at, group_of, owner, settled}
use Rattle.client_rules.specs.Client.{Asked, Client, Temporary, after_message, at_moment, calls_of, is_open, numbered, with_call}
use Rattle.client_rules.specs.Sending.{Setting, binding_body}
use Rattle.client_rules.specs.Filling.{Filling, Turn, Goes as Going, Waits, Never, asks_binding, body_behind, empty, fills, goes, is_needed, number_of, says_binding, says_call, says_call_at, says_drop, says_drop_of, sends_call, takes_turn, turn_of, undropped}
use Rattle.client_rules.specs.Flush.{Flushed, Marked, binding_alone, filled, first_marked, flush, gone_again, has_any, remembers, room_min, sends, unless_binding, unless_call}
use Rattle.client_core.specs.Draft.{drops, queue}
use Rattle.client_core.specs.Filled.{own_binding, own_drops, waiting_said}
use Rattle.client_core.specs.Flushed.{Leaves}
use Rattle.client_core.specs.Kept.{Contents, Stands}
use Rattle.client_core.specs.One.{StandsForOne}
use Rattle.client_core.specs.Own.{own_in, own_of}
use Rattle.client_core.specs.declared.flush.Flush.{Flush}
use Rattle.client_core.specs.declared.flush.Flush.TheVariants as told
use Rattle.client_core.proofs.FillLemmas.{after_waiting, fills_is, goes_keeps, keeps_if, says_keeps, stays_if}
use Rattle.client_core.proofs.FlushLemmas.{picks}
use Rattle.client_core.proofs.OwnLemmas.{binding_own, call_own, own_stands}

binding_keys : {S : Type 0} (setting : Setting S) (own : Option Temporary) (filling : Filling S) → own_of (says_binding setting own filling).client ≡ own_of filling.client
binding_keys setting None filling = refl
binding_keys setting (Some temporary) filling =
    let unsaid = numbered true [] filling.client in
    let message : Message = record unsaid { body = binding_body setting filling.client temporary unsaid.number filling.draw } in
    keeps_if (λ other. own_of other.client) (is_needed temporary.binding && is_open filling.client) (goes message (asks_binding setting message) filling) filling
    (goes_keeps (λ other. own_of other.client) message (asks_binding setting message) filling (binding_own (Asked message) (after_message true filling.client)) refl)

drop_keys : {S : Type 0} (call : CallNo) (own : Option ℕ) (filling : Filling S) → own_of (says_drop_of call own filling).client ≡ own_of filling.client
drop_keys call None filling = refl
drop_keys call (Some number) filling = says_keeps own_of true (RpcDropAnswer number) (with_call call undropped) filling (λ client. call_own call undropped (after_message true client))

drops_keys : {S : Type 0} (filling : Filling S) (calls : List CallNo) → own_of (fold says_drop filling calls).client ≡ own_of filling.client
drops_keys filling [] = refl
drops_keys filling (call ∷ calls) = drops_keys (says_drop filling call) calls ∙ drop_keys call (number_of (at call (calls_of filling.client))) filling

turn_keys : {S : Type 0} (call : CallNo) (body : List ℕ) (turn : Turn) (filling : Filling S) → own_of (takes_turn call body turn filling).client ≡ own_of filling.client
turn_keys call body (Going wrap) filling =
    let message = numbered true (body_behind wrap body) filling.client in
    goes_keeps (λ own. own_of own.client) message (sends_call call wrap message) filling (call_own call _ (after_message true filling.client)) refl
turn_keys call body Waits filling = refl
turn_keys call body Never filling = call_own call (settled (fate.Refused 0)) filling.client

call_at_keys : {S : Type 0} (call : CallNo) (own : Option Call) (filling : Filling S) → own_of (says_call_at call own filling).client ≡ own_of filling.client
call_at_keys call None filling = refl
call_at_keys call (Some one) filling = turn_keys call one.body (turn_of filling.client one) filling

call_keys : {S : Type 0} (filling : Filling S) (call : CallNo) → own_of (says_call filling call).client ≡ own_of filling.client
call_keys filling call =
    let own = at call (calls_of filling.client) in
    stays_if (λ other. own_of other.client) filling.is_full filling (says_call_at call own filling) (call_at_keys call own filling)

calls_keys : {S : Type 0} (filling : Filling S) (calls : List CallNo) → own_of (fold says_call filling calls).client ≡ own_of filling.client
calls_keys filling [] = refl
calls_keys filling (call ∷ calls) = calls_keys (says_call filling call) calls ∙ call_keys filling call

fills_keys : {S : Type 0} (setting : Setting S) (client : Client) (draw : S) → own_of (fills setting client draw).client ≡ own_of client
fills_keys setting client draw =
    let first = empty client draw in
    let f7 = waiting_said first in
    let f8 = own_binding setting f7 in
    let f9 = own_drops f8 in
    ap (λ (own : Filling _). own_of own.client) (sym (fills_is setting client draw))
    ∙ (calls_keys f9 (queue f9) ∙ (drops_keys f8 (drops f8) ∙ (binding_keys setting f7.client.temporary f7
    ∙ after_waiting own_of (λ one. refl) (λ one. refl) (λ one. refl) (λ numbers one. refl) (λ one. refl) (λ one. refl) (λ one. refl) first)))

call_filled : {S : Type 0} (setting : Setting S) (own : Option Marked) (client : Client) (draw : S) → own_of (unless_call setting own client draw).client ≡ own_of client
call_filled setting None client draw = fills_keys setting client draw
call_filled setting (Some marked) client draw = call_own marked.call (gone_again client.salt) client

binding_filled : {S : Type 0} (setting : Setting S) (own : Option Message) (client : Client) (draw : S) → own_of (unless_binding setting own client draw).client ≡ own_of client
binding_filled setting None client draw = call_filled setting (first_marked (calls_of client) (group_of Alone (calls_of client))) client draw
binding_filled setting (Some message) client draw = binding_own (Asked message) client

lone_keys : (here : Bool) (number : ℕ) (inner : List ℕ) (client : Client) → own_of (if here then client else remembers number inner client) ≡ own_of client
lone_keys true number inner client = refl
lone_keys false number inner client = refl

sends_keys : {S : Type 0} (setting : Setting S) (messages : List Message) (filling : Filling S) → own_of (sends setting messages filling).client ≡ own_of filling.client
sends_keys setting [] filling = refl
sends_keys setting (message ∷ []) filling = lone_keys (is_some (owner message.number (calls_of filling.client))) message.number filling.inner filling.client
sends_keys setting (message ∷ other ∷ messages) filling = refl

picks_keys : {S : Type 0} (setting : Setting S) (now : ℕ) (client : Client) (draw : S) (filling : Filling S) (any few : Bool) → own_of filling.client ≡ own_of client
    → own_of (picks setting now client draw filling any few).client ≡ own_of client
picks_keys setting now client draw filling true true same = refl
picks_keys setting now client draw filling true false same = sends_keys setting filling.messages filling ∙ same
picks_keys setting now client draw filling false few same = same

flush_keys : {S : Type 0} (setting : Setting S) (now : ℕ) (client : Client) (draw : S) → own_of (flush setting now client draw).client ≡ own_of client
flush_keys setting now client draw =
    let filling = filled setting (at_moment now client) draw in
    picks_keys setting now client draw filling (has_any filling.messages) (nat_lt (room client.counters) room_min)
    (binding_filled setting (binding_alone client.temporary) (at_moment now client) draw)

own_after : {S : Type 0} (answer : Flush) (core : Contents) (draw : S) (client : Client) (before : S) (due : Flushed S) → own_of due.client ≡ own_of client
    → Leaves answer core draw client before due → own_in core ≡ own_of client
own_after told.Nothing core draw client before due same left = own_stands core due.client left.0 ∙ same
own_after told.Spent core draw client before due same left = own_stands core due.client left.0 ∙ same
own_after (told.Packet bytes) core draw client before due same left = own_stands core due.client left.0 ∙ same
own_after told.Memory core draw client before due same left = own_stands core client left.0

pub flush_own : {S : Type 0} (setting : Setting S) (now : ℕ) (answer : Flush) (core old : Contents) (draw : S) (client : Client) (before : S)
    → Stands old client → Leaves answer core draw client before (flush setting now client before) → own_in core ≡ own_in old
flush_own setting now answer core old draw client before stands left =
    own_after answer core draw client before (flush setting now client before) (flush_keys setting now client before) left ∙ sym (own_stands old client stands)

-- what is left is a client's
pub flush_stands : {S : Type 0} (answer : Flush) (core : Contents) (draw : S) (client : Client) (before : S) (due : Flushed S) → Leaves answer core draw client before due → StandsForOne core
flush_stands told.Nothing core draw client before due left = record { client = due.client; stands = left.0 }
flush_stands told.Spent core draw client before due left = record { client = due.client; stands = left.0 }
flush_stands (told.Packet bytes) core draw client before due left = record { client = due.client; stands = left.0 }
flush_stands told.Memory core draw client before due left = record { client = client; stands = left.0 }
