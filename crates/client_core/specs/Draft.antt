-- A packet that is filled, as it is kept: scaffolding of private functions, and no promise.
use Rattle.std.specs.Prelude.{◌≡◌, ℕ, suc, slice_get, fold, drop, Some, ◌+◌, ◌*◌, ◌≤◌, ◌<◌, ◌&&◌, not, nat_le, Bool, true, false, List, [], ◌∷◌, length, ⊤}
use Rattle.std.specs.List.{flat_map}
use Rattle.tl_codec.specs.Standard.{longs_max}
use Rattle.tl_codec.specs.Spelling.{string_size}
use Rattle.msg_ids.specs.Counters.{Counters, next_number, room, seq_of}
use Rattle.service_tl.specs.Items.{spelling_of}
use Rattle.service_tl.specs.declared.lists.Message.{Message}
use Rattle.service_tl.specs.declared.item.Item.{Item}
use Rattle.service_tl.specs.declared.item.Item.TheVariants.{RpcDropAnswer, GetFutureSalts, Ping, DestroySession, MsgsAck, MsgsStateReq, MsgsStateInfo, MsgResendReq}
use Rattle.containers.specs.Container.{bytes_max, container_head, message_head, messages_max, row, size_of}
use Rattle.call_table.specs.declared.call.CallNo.{CallNo}
use Rattle.call_table.specs.declared.call.Group.TheVariants.{Queued, Dropping}
use Rattle.call_table.specs.Table.{group_of}
use Rattle.client_rules.specs.Client.{calls_of}
use Rattle.client_rules.specs.Filling.{Filling, says_call, says_drop}
use Rattle.client_core.specs.Kept.{Contents, Stands}
use Rattle.client_core.specs.declared.saying.Outgoing.{Outgoing}
use Rattle.client_core.specs.declared.saying.Outgoing.TheVariants.{Acks, Told, Resent, States, Pings, Salts, Destroys, Drops}

-- what contracts see of it: the messages as they stand in a container, how many, the numbers of calls among them and of the
-- binding, whether an item didn't fit, the last message's number and seq, and for how many bytes and how many of those
-- numbers there is room still
pub record Draft : Type 0 where
  pub rows : List ℕ
  pub count : ℕ
  pub inner : List ℕ
  pub is_full : Bool
  pub number : ℕ
  pub seq : ℕ
  pub room : ℕ
  pub numbers : ℕ

abbrev pub nothing_yet : Draft
nothing_yet = record { rows = []; count = 0; inner = []; is_full = false; number = 0; seq = 0; room = 0; numbers = 0 }

abbrev pub filled_up : Draft → Draft
filled_up draft = record draft { is_full = true }

-- it has these messages
pub record Holds (draft : Draft) (messages : List Message) : Type 0 where
  pub rows : draft.rows ≡ flat_map row messages
  pub size : container_head + length draft.rows ≡ size_of messages
  pub count : draft.count ≡ length messages
  pub last : (one : Message) → messages ≡ one ∷ [] → (draft.number ≡ one.number) × (draft.seq ≡ one.seq)

-- a further message with a body of so many bytes fits
abbrev pub enters : ℕ → Draft → Bool
enters size draft =
    not draft.is_full && (nat_le (draft.count + 1) messages_max && nat_le (container_head + length draft.rows + message_head + size) bytes_max)

-- ---- its room

-- there is room for so many further bytes, or else for all that a packet may have
pub record HasRoomFor (bytes : ℕ) (draft : Draft) : Type 0 where
  pub enough : container_head + length draft.rows + draft.room < bytes_max → bytes ≤ draft.room

-- what comes into it takes up at most so many bytes of its room, and so many numbers
pub record TakesUp (bytes numbers : ℕ) (old new : Draft) : Type 0 where
  pub same : length new.rows + new.room ≡ length old.rows + old.room
  pub most : length new.rows ≤ length old.rows + bytes
  pub left : old.numbers ≤ new.numbers + numbers

-- a client and the packet that it fills stand for a filling
pub record Goes {S : Type 0} (core : Contents) (draft : Draft) (filling : Filling S) : Type 0 where
  pub client : Stands core filling.client
  pub messages : Holds draft filling.messages
  pub inner : draft.inner ≡ filling.inner
  pub is_full : draft.is_full ≡ filling.is_full

-- ---- what a client says beside calls

abbrev pub item_of : Outgoing → Item
item_of (Acks ids) = MsgsAck ids.now
item_of (Told request info) = MsgsStateInfo request info.now
item_of (Resent ids) = MsgResendReq ids.now
item_of (States ids) = MsgsStateReq ids.now
item_of (Pings id) = Ping id
item_of (Salts count) = GetFutureSalts count
item_of (Destroys session) = DestroySession session
item_of (Drops number) = RpcDropAnswer number

abbrev pub needs_answer : Outgoing → Bool
needs_answer (Salts count) = true
needs_answer (Destroys session) = true
needs_answer (Drops number) = true
needs_answer _ = false

-- how many bytes its body has: 4 for its constructor, 4 for an int, 8 for a long, 8 more in front of a vector's longs
abbrev pub said_bytes : Outgoing → ℕ
said_bytes (Acks ids) = 12 + 8 * length ids.now
said_bytes (Told request info) = 12 + string_size (length info.now)
said_bytes (Resent ids) = 12 + 8 * length ids.now
said_bytes (States ids) = 12 + 8 * length ids.now
said_bytes (Pings id) = 12
said_bytes (Salts count) = 8
said_bytes (Destroys session) = 12
said_bytes (Drops number) = 12

abbrev pub CanBeSaid : Outgoing → Type 0
CanBeSaid (Acks ids) = length ids.now ≤ longs_max
CanBeSaid (Told request info) = length info.now ≤ longs_max
CanBeSaid (Resent ids) = length ids.now ≤ longs_max
CanBeSaid (States ids) = length ids.now ≤ longs_max
CanBeSaid _ = ⊤

-- the message of it under a sender's next number
abbrev pub said_message : ℕ → Counters → Outgoing → Message
said_message now counters said =
    record {
      number = next_number counters.last now;
      seq = seq_of counters.content_messages (needs_answer said);
      body = spelling_of (item_of said);
    }

-- there is a number for each further message of the packet, and for its container
abbrev pub HasNumbers : Contents → Draft → Type 0
HasNumbers core draft = messages_max < draft.count + room core.rest.counters

-- ---- the turns of queued calls

-- the queue of a filling's client
abbrev pub queue : {S : Type 0} → Filling S → List CallNo
queue filling = group_of Queued (calls_of filling.client)

-- a call leaves the queue: those behind it move up
abbrev pub LeavesQueue : {S : Type 0} → CallNo → Filling S → Filling S → Type 0
LeavesQueue call old new = (place : ℕ) → slice_get (queue old) place ≡ Some call → drop place (queue new) ≡ drop (suc place) (queue old)

-- so many turns came: what is left gives what all give
pub record SoFar {S : Type 0} (first : Filling S) (core : Contents) (draft : Draft) (place k count : ℕ) : Type 0 where
  pub now : Filling S
  pub goes : Goes core draft now
  pub same : fold says_call first (queue first) ≡ fold says_call now (drop place (queue now))
  pub left : draft.is_full ≡ false → k + length (drop place (queue now)) ≡ count

-- the calls of a filling's client whose answers are to be dropped
abbrev pub drops : {S : Type 0} → Filling S → List CallNo
drops filling = group_of Dropping (calls_of filling.client)

-- so many of these went: what is left gives what all give
pub record DropsSoFar {S : Type 0} (first : Filling S) (core : Contents) (draft : Draft) (k count : ℕ) : Type 0 where
  pub now : Filling S
  pub goes : Goes core draft now
  pub same : fold says_drop first (drops first) ≡ fold says_drop now (drops now)
  pub left : draft.is_full ≡ false → k + length (drops now) ≡ count
