-- The items of a client's next packet, in order (core.telegram.org/mtproto/service_messages,
-- core.telegram.org/mtproto/service_messages_about_messages; core.telegram.org/api/invoking, "Saving query order").
use Rattle.std.specs.Prelude.{ℕ, ◌&&◌, nat_lt, Bool, true, false, if◌then◌else◌, Option, Some, None, option_map, List, [], ◌∷◌, ◌++◌, fold, take, filter_map}
use Rattle.service_tl.specs.declared.lists.Message.{Message}
use Rattle.service_tl.specs.declared.item.Item.{Item}
use Rattle.service_tl.specs.declared.item.Item.TheVariants.{RpcDropAnswer, GetFutureSalts, Ping, DestroySession, MsgsAck, MsgsStateReq, MsgsStateInfo, MsgResendReq, InvokeAfterMsg}
use Rattle.service_tl.specs.Items.{spelling_of}
use Rattle.service_tl.specs.Results.{is_good}
use Rattle.packing.specs.Packing.{is_within}
use Rattle.call_table.specs.declared.call.CallNo.{CallNo}
use Rattle.call_table.specs.declared.call.Living.{Living}
use Rattle.call_table.specs.declared.call.Fate.TheVariants as fate
use Rattle.call_table.specs.declared.call.Group.TheVariants as group
use Rattle.call_table.specs.Table.{State, Name, Call, at, flagged, group_of, living_name, sent, settled}
use Rattle.call_table.specs.Table as table
use Rattle.client_rules.specs.Client.{Client, Binding, Needed, Asked, Bound, Refused, Temporary, States, calls_of, is_open, with_binding, with_call, numbered, after_message}
use Rattle.client_rules.specs.Sending.{Setting, binding_body, draw_after_binding}

-- ---- a packet that is filled

-- so far: the client, the draw, the messages in order, the numbers of the calls among them and of the binding, and whether
-- an item didn't fit, behind which none goes
pub record Filling (S : Type 0) : Type 0 where
  pub client : Client
  pub draw : S
  pub messages : List Message
  pub inner : List ℕ
  pub is_full : Bool

abbrev pub empty : {S : Type 0} → Client → S → Filling S
empty client draw = record { client = client; draw = draw; messages = []; inner = []; is_full = false }

abbrev pub changes : {S : Type 0} → (Client → Client) → Filling S → Filling S
changes change filling = record filling { client = change filling.client }

-- the message goes into the packet, where the container of all of them is within its limits, and that leaves the filling so
abbrev pub goes : {S : Type 0} → Message → (Filling S → Filling S) → Filling S → Filling S
goes message leaves filling =
    if filling.is_full then filling
    else if is_within (filling.messages ++ message ∷ [])
    then leaves (record filling { messages = filling.messages ++ message ∷ [] })
    else record filling { is_full = true }

-- an item goes under the client's next number, and that changes the client so
abbrev pub says : {S : Type 0} → Bool → Item → (Client → Client) → Filling S → Filling S
says is_content item change filling =
    goes (numbered is_content (spelling_of item) filling.client)
    (changes (λ client. change (after_message is_content client))) filling

-- ---- what waits beside the calls

abbrev pub says_acks : {S : Type 0} → List ℕ → Filling S → Filling S
says_acks [] filling = filling
says_acks acks filling =
    says false (MsgsAck acks) (λ client. record client { table = record client.table { acks = [] } }) filling

abbrev pub says_told : {S : Type 0} → Option States → Filling S → Filling S
says_told None filling = filling
says_told (Some states) filling =
    says false (MsgsStateInfo states.request states.info)
    (λ client. record client { waiting = record client.waiting { told = None } }) filling

abbrev pub says_resent : {S : Type 0} → List ℕ → Filling S → Filling S
says_resent [] filling = filling
says_resent numbers filling =
    says false (MsgResendReq numbers) (λ client. record client { waiting = record client.waiting { resent = [] } }) filling

-- most numbers of a request for states
abbrev pub numbers_max : ℕ
numbers_max = 8192

-- numbers in ascending order
abbrev pub inserted : List ℕ → ℕ → List ℕ
inserted [] number = number ∷ []
inserted (first ∷ others) number = if nat_lt first number then first ∷ inserted others number else number ∷ (first ∷ others)

-- the number under which a call is outstanding
abbrev pub living_number : Call → Option ℕ
living_number call = option_map (λ name. name.message.number) (living_name call)

-- the least numbers under which calls are outstanding
abbrev pub outstanding : Client → List ℕ
outstanding client = take numbers_max (fold inserted [] (filter_map living_number (calls_of client)))

-- the states of these are asked for: this is the last request then
abbrev pub asks_states : List ℕ → Client → Client
asks_states numbers client =
    record client {
      waiting = record client.waiting { states = false };
      asked = Some (record { number = client.counters.last; numbers = numbers });
    }

abbrev pub says_states : {S : Type 0} → Bool → Filling S → Filling S
says_states false filling = filling
says_states true filling =
    says false (MsgsStateReq (outstanding filling.client)) (asks_states (outstanding filling.client)) filling

abbrev pub says_ping : {S : Type 0} → Option ℕ → Filling S → Filling S
says_ping None filling = filling
says_ping (Some id) filling =
    says false (Ping id) (λ client. record client { waiting = record client.waiting { ping = None } }) filling

abbrev pub says_salts : {S : Type 0} → Option ℕ → Filling S → Filling S
says_salts None filling = filling
says_salts (Some count) filling =
    says true (GetFutureSalts count) (λ client. record client { waiting = record client.waiting { salts = None } }) filling

-- a former session is destroyed by an open client
abbrev pub says_destroyed : {S : Type 0} → Option ℕ → Filling S → Filling S
says_destroyed None filling = filling
says_destroyed (Some session) filling =
    if is_open filling.client
    then says true (DestroySession session)
    (λ client. record client { waiting = record client.waiting { destroyed = None } }) filling
    else filling

-- ---- the binding

-- the message goes, and is the one that was asked by
abbrev pub asks_binding : {S : Type 0} → Setting S → Message → Filling S → Filling S
asks_binding setting message filling =
    record filling {
      client = with_binding (Asked message) (after_message true filling.client);
      draw = draw_after_binding setting filling.draw;
      inner = filling.inner ++ message.number ∷ [];
    }

abbrev pub is_needed : Binding → Bool
is_needed Needed = true
is_needed _ = false

-- a binding that an open client needs is asked for
abbrev pub says_binding : {S : Type 0} → Setting S → Option Temporary → Filling S → Filling S
says_binding setting None filling = filling
says_binding setting (Some temporary) filling =
    let unsaid = numbered true [] filling.client in
    let body = binding_body setting filling.client temporary unsaid.number filling.draw in
    let message : Message = record unsaid { body = body } in
    if is_needed temporary.binding && is_open filling.client then goes message (asks_binding setting message) filling else filling

-- ---- answers to drop

abbrev pub undropped : Call → Call
undropped call = flagged (record call.flags { dropping = false }) call

abbrev pub says_drop_of : {S : Type 0} → CallNo → Option ℕ → Filling S → Filling S
says_drop_of call None filling = filling
says_drop_of call (Some number) filling = says true (RpcDropAnswer number) (with_call call undropped) filling

abbrev pub number_of : Option Call → Option ℕ
number_of None = None
number_of (Some call) = living_number call

abbrev pub says_drop : {S : Type 0} → Filling S → CallNo → Filling S
says_drop filling call = says_drop_of call (number_of (at call (calls_of filling.client))) filling

-- ---- queued calls

-- when its turn comes, a queued call goes, as it is or behind the message of this number, or it waits, or it never goes
pub data Turn : Type 0 where
  Goes : Option ℕ → Turn
  Waits : Turn
  Never : Turn

-- by the earlier call after which it is to execute
abbrev pub turn_by : State → Option ℕ → Turn
turn_by (table.Done result) number = if is_good result then Goes None else Never
turn_by table.Sent number = Goes number
turn_by table.Queued number = Waits
turn_by table.Held number = Waits
turn_by (table.Refused code) number = Never
turn_by (table.Unknown cause) number = Never

abbrev pub turn_behind : Option Call → Turn
turn_behind None = Never
turn_behind (Some earlier) = turn_by earlier.state (living_number earlier)

abbrev pub turn_after : List Call → Option CallNo → Turn
turn_after calls None = Goes None
turn_after calls (Some earlier) = turn_behind (at earlier calls)

-- an open client with a temporary key gives a number only while the binding holds
abbrev pub turn_under : Binding → Turn → Turn
turn_under Bound turn = turn
turn_under (Refused code) turn = Never
turn_under _ turn = Waits

abbrev pub turn_with : Option Temporary → Turn → Turn
turn_with None turn = turn
turn_with (Some temporary) turn = turn_under temporary.binding turn

abbrev pub turn_of : Client → Call → Turn
turn_of client call =
    let turn = turn_after (calls_of client) call.after in
    if is_open client then turn_with client.temporary turn else turn

-- the body of a call, as it goes
abbrev pub body_behind : Option ℕ → List ℕ → List ℕ
body_behind None body = body
body_behind (Some number) body = spelling_of (InvokeAfterMsg number body)

-- the call is sent as this message
abbrev pub sends_call : {S : Type 0} → CallNo → Option ℕ → Message → Filling S → Filling S
sends_call call wrap message filling =
    let living : Living = record { number = message.number; seq = message.seq; wrap = wrap } in
    record filling {
      client = with_call call (sent filling.client.session living filling.client.salt) (after_message true filling.client);
      inner = filling.inner ++ message.number ∷ [];
    }

abbrev pub takes_turn : {S : Type 0} → CallNo → List ℕ → Turn → Filling S → Filling S
takes_turn call body (Goes wrap) filling =
    let message = numbered true (body_behind wrap body) filling.client in
    goes message (sends_call call wrap message) filling
takes_turn call body Waits filling = filling
takes_turn call body Never filling = changes (with_call call (settled (fate.Refused 0))) filling

abbrev pub says_call_at : {S : Type 0} → CallNo → Option Call → Filling S → Filling S
says_call_at number None filling = filling
says_call_at number (Some call) filling = takes_turn number call.body (turn_of filling.client call) filling

-- behind an item that didn't fit no turn comes
abbrev pub says_call : {S : Type 0} → Filling S → CallNo → Filling S
says_call filling call =
    if filling.is_full then filling else says_call_at call (at call (calls_of filling.client)) filling

-- ---- all of it

abbrev pub fills : {S : Type 0} → Setting S → Client → S → Filling S
fills setting client draw =
    let waiting = client.waiting in
    let items = says_destroyed waiting.destroyed (says_salts waiting.salts (says_ping waiting.ping
    (says_states waiting.states (says_resent waiting.resent (says_told waiting.told
    (says_acks client.table.acks (empty client draw))))))) in
    let bound = says_binding setting client.temporary items in
    let drops = fold says_drop bound (group_of group.Dropping (calls_of client)) in
    fold says_call drops (group_of group.Queued (calls_of client))
