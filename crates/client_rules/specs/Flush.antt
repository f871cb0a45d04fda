-- A flush: it makes at most one packet (core.telegram.org/mtproto/service_messages, "Containers").
use Rattle.std.specs.Prelude.{ℕ, nat_lt, Bool, true, false, if◌then◌else◌, is_some, Option, Some, None, option_map, List, [], ◌∷◌}
use Rattle.msg_ids.specs.Counters.{room}
use Rattle.service_tl.specs.declared.lists.Message.{Message}
use Rattle.containers.specs.Container.{container_of}
use Rattle.call_table.specs.declared.call.CallNo.{CallNo}
use Rattle.call_table.specs.declared.call.Group.TheVariants.{Alone}
use Rattle.call_table.specs.Table.{Name, Call, at, flagged, group_of, living_name, owner, sent_again, remembered}
use Rattle.client_rules.specs.Client.{Client, Binding, Asked, Temporary, at_moment, calls_of, with_binding, with_call, numbered, after_message}
use Rattle.client_rules.specs.Sending.{Setting, Packet, packet_of, draw_after_packet}
use Rattle.client_rules.specs.Filling.{Filling, empty, fills, body_behind}

-- ---- what goes alone

-- a message that is sent again, and nothing beside it
abbrev pub again : {S : Type 0} → Message → List ℕ → Client → S → Filling S
again message inner client draw = record (empty client draw) { messages = message ∷ []; inner = inner }

-- the message of a binding that was asked for, where it is marked
abbrev pub asked_alone : Bool → Binding → Option Message
asked_alone true (Asked message) = Some message
asked_alone _ _ = None

abbrev pub binding_alone : Option Temporary → Option Message
binding_alone None = None
binding_alone (Some temporary) = asked_alone temporary.is_alone temporary.binding

-- the living message of a call, as it went
abbrev pub message_behind : List ℕ → Option Name → Option Message
message_behind body None = None
message_behind body (Some name) =
    Some (record { number = name.message.number; seq = name.message.seq; body = body_behind name.message.wrap body })

-- a call that is sent again: the mark ends, and its number went under this salt too
abbrev pub gone_again : ℕ → Call → Call
gone_again salt call = sent_again salt (flagged (record call.flags { alone = false }) call)

-- the first marked call, with its message
pub record Marked : Type 0 where
  pub call : CallNo
  pub message : Message

abbrev pub marked_at : CallNo → Option Call → Option Marked
marked_at number None = None
marked_at number (Some call) =
    option_map (λ message. record { call = number; message = message }) (message_behind call.body (living_name call))

abbrev pub first_marked : List Call → List CallNo → Option Marked
first_marked calls [] = None
first_marked calls (call ∷ others) = marked_at call (at call calls)

-- ---- what a flush sends

abbrev pub unless_call : {S : Type 0} → Setting S → Option Marked → Client → S → Filling S
unless_call setting (Some marked) client draw =
    again marked.message (marked.message.number ∷ []) (with_call marked.call (gone_again client.salt) client) draw
unless_call setting None client draw = fills setting client draw

abbrev pub unless_binding : {S : Type 0} → Setting S → Option Message → Client → S → Filling S
unless_binding setting (Some message) client draw =
    again message (message.number ∷ []) (with_binding (Asked message) client) draw
unless_binding setting None client draw =
    unless_call setting (first_marked (calls_of client) (group_of Alone (calls_of client))) client draw

-- the binding alone, where it is marked; else the first call that is marked, alone; else what waits, in order
abbrev pub filled : {S : Type 0} → Setting S → Client → S → Filling S
filled setting client draw = unless_binding setting (binding_alone client.temporary) client draw

-- there is something to send
abbrev pub has_any : List Message → Bool
has_any [] = false
has_any messages = true

abbrev pub is_due : {S : Type 0} → Setting S → Client → S → Bool
is_due setting client draw = has_any (filled setting client draw).messages

-- ---- the packet

-- it is remembered by its outer number, with the numbers of the calls in it and of the binding
abbrev pub remembers : ℕ → List ℕ → Client → Client
remembers outer inner client =
    record client { table = record client.table { packets = remembered outer inner client.table.packets } }

-- a call that is the only message isn't remembered
abbrev pub remembers_lone : ℕ → List ℕ → Client → Client
remembers_lone number inner client =
    if is_some (owner number (calls_of client)) then client else remembers number inner client

-- what a flush gives
pub data Answer : Type 0 where
  Nothing : Answer
  Spent : Answer
  Sends : Packet → Answer

pub record Flushed (S : Type 0) : Type 0 where
  pub answer : Answer
  pub client : Client
  pub draw : S

abbrev pub seals : {S : Type 0} → Setting S → Message → Client → S → Flushed S
seals setting message client draw =
    record {
      answer = Sends (packet_of setting client draw message);
      client = client;
      draw = draw_after_packet setting draw message;
    }

-- a single message goes as it is, more go in a container, which is numbered then
abbrev pub sends : {S : Type 0} → Setting S → List Message → Filling S → Flushed S
sends setting [] filling = record { answer = Nothing; client = filling.client; draw = filling.draw }
sends setting (message ∷ []) filling =
    seals setting message (remembers_lone message.number filling.inner filling.client) filling.draw
sends setting messages filling =
    let message = numbered false (container_of messages) filling.client in
    seals setting message (remembers message.number filling.inner (after_message false filling.client)) filling.draw

-- how many further numbers there have to be
abbrev pub room_min : ℕ
room_min = 2048

-- Nothing goes where nothing is due. Where something is and there may not be numbers for it, nothing changes at all.
abbrev pub flush : {S : Type 0} → Setting S → ℕ → Client → S → Flushed S
flush setting now client draw =
    let filling = filled setting (at_moment now client) draw in
    if has_any filling.messages
    then (if nat_lt (room client.counters) room_min
    then record { answer = Spent; client = client; draw = draw }
    else sends setting filling.messages filling)
    else sends setting [] filling
