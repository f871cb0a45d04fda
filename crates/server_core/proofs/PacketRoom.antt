-- The room that a packet takes is enough for what it brings.
use Rattle.std.proofs.Common.{◌≡◌, ◌∙◌, ◌≤◌, ℕ, ◌+◌, ◌*◌, Bool, List, ap, subst, length, arith}
use Rattle.std.specs.Prelude.{◌/◌, if◌then◌else◌, sum_by, IfOk, Result, Ok, Err}
use Rattle.std.proofs.lemmas.Bool.{cond_both}
use Rattle.std.proofs.lemmas.List.Sums.{sum_by-le-sum_by}
use Rattle.outbox.specs.declared.kept.Kept.{Kept}
use Rattle.outbox.specs.Replies.{Contents, Replies}
use Rattle.octets.specs.declared.memory.Memory.{Memory}
use Rattle.server_output.specs.Batch.{Batch, is_one, packets_most, with_heads}
use Rattle.server_output.specs.Dues.{Dues, has_number}
use Rattle.server_output.specs.Items.{acks_bytes, ids_max, new_session_bytes}
use Rattle.server_output.specs.Outs.{Going}
use Rattle.server_rules.specs.Answer.{room_min}
use Rattle.service_tl.specs.declared.lists.Message.{Message}
use Rattle.server_session.specs.declared.calling.Called.{Called}
use Rattle.server_session.specs.declared.session.SessionState.{SessionState}
use Rattle.server_session.specs.SessionState.{numbers_left, outbox_of}
use Rattle.server_session.specs.Unsaid.{CallsFor, IsCalled, NoMoreUnsaid, called_weight, unsaid_bytes, unsaid_count, unsaid_weight}
use Rattle.server_dispatch.specs.declared.turn.Turn.{Turn}
use Rattle.server_dispatch.specs.Entries.{Held}
use Rattle.server_dispatch.specs.Spare.{HasSpare, Uses}
use Rattle.server_dispatch.specs.Speaks.{HasRoom, Spends}
use Rattle.server_core.specs.declared.room.PacketRoom.{PacketRoom}
use Rattle.server_core.specs.declared.speech.Speech.{Speech}
use Rattle.server_core.specs.Speech.{IsRoomFor}
use Rattle.server_core.specs.SettlingAll.{calls_by}
use Rattle.server_core.proofs.Uses.{bytes-less, count-less}
use Rattle.server_core.specs.Room.{CanSend, CanTake, IsPacketRoom, packet_bytes, packet_messages, settling_bytes, settling_messages, turn_in}

-- what wasn't said of the kept replies is no more than these
unsaid-less : (weight : Kept → ℕ) (messages : List Message) (replies : Replies) → unsaid_weight weight messages replies ≤ sum_by weight replies
unsaid-less weight messages replies =
    sum_by-le-sum_by (λ (kept : Kept). if has_number kept.number messages then 0 else weight kept) weight replies
    (λ kept. cond_both (has_number kept.number messages) 0 (weight kept) (λ n. n ≤ weight kept) (λ is. omega arith) (λ not_so. omega arith))

-- and of those that are called for no more than there is room for

unsaid-few : (called more : Kept → Bool) (standing : SessionState) (owing : Dues) (most : Called) → CallsFor called more → IsCalled more standing most
    → unsaid_count called standing owing ≤ most.count
unsaid-few called more standing owing most calls is =
    let less = count-less called more standing owing calls in
    let all = unsaid-less (called_weight more (λ kept. 1)) owing.messages standing.outbox.replies in
    omega (arith, less, all, is.count)

unsaid-short : (called more : Kept → Bool) (standing : SessionState) (owing : Dues) (most : Called) → CallsFor called more → IsCalled more standing most
    → unsaid_bytes called standing owing ≤ most.bytes
unsaid-short called more standing owing most calls is =
    let less = bytes-less called more standing owing calls in
    let all = unsaid-less (called_weight more (λ kept. length kept.body)) owing.messages standing.outbox.replies in
    omega (arith, less, all, is.bytes)

-- ---- how much it is

packets-few : (messages bytes : ℕ) → messages ≤ 11257 → bytes ≤ 13000000 → packets_most messages bytes ≤ 40
packets-few messages bytes few short =
    cond_both (is_one messages bytes) 1 (1 + messages / 1020 + (2 * with_heads messages bytes) / 1044473) (λ n. n ≤ 40)
    (λ one. omega arith) (λ more. omega (arith, few, short))

pub if-more : {X E : Type 0} (P Q : X → Type 0) (result : Result X E) → ((x : X) → P x → Q x) → IfOk result P → IfOk result Q
if-more P Q (Ok x) follows is = follows x is
if-more P Q (Err e) follows is = tt

pub room-same : (messages others bytes more : ℕ) (result : Result Speech Memory) → messages ≡ others → bytes ≡ more
    → IfOk result (IsRoomFor messages bytes) → IfOk result (IsRoomFor others more)
room-same messages others bytes more result same same_bytes is =
    subst (λ (m : ℕ). IfOk result (IsRoomFor m more)) same (subst (λ (b : ℕ). IfOk result (IsRoomFor messages b)) same_bytes is)

pub numbers-fit : (count limit messages bytes : ℕ) (result : Result Speech Memory) → count ≤ 1021 → limit ≤ 5117 → messages ≤ 11257 → bytes ≤ 13000000
    → IfOk result (IsRoomFor messages bytes)
    → IfOk result (λ speech. packet_messages count limit + packets_most speech.packets.messages speech.packets.bytes ≤ room_min)
numbers-fit count limit messages bytes result few few_jobs few_messages short is =
    if-more (IsRoomFor messages bytes) (λ speech. packet_messages count limit + packets_most speech.packets.messages speech.packets.bytes ≤ room_min) result
    (λ speech is_room.
    let most = ap (λ (batch : Batch). packets_most batch.messages batch.bytes) is_room.packets in
    let fewer = packets-few messages bytes few_messages short in
    omega (arith, most, fewer, few, few_jobs)) is

-- ---- as the event goes on

pub acks-short : (acks : ℕ) (standing : SessionState) (jobs bindings : ℕ) (room : PacketRoom) → CanTake standing jobs bindings room → acks ≤ length room.dues.items → acks ≤ ids_max
acks-short acks standing jobs bindings room is few = omega (arith, few, is.taken.few)

places-are : (standing : SessionState) (room : PacketRoom) → IsPacketRoom standing room
    → room.speech.owing.places ≡ packet_messages (length room.dues.items) room.limit + room.called.count
places-are standing room is = ap (λ (dues : Dues). dues.places) is.speech.owing

bytes-are : (standing : SessionState) (room : PacketRoom) → IsPacketRoom standing room
    → room.speech.owing.room ≡ packet_bytes room.dues.items room.limit + room.called.bytes
bytes-are standing room is = ap (λ (dues : Dues). dues.room) is.speech.owing

entries-are : (standing : SessionState) (room : PacketRoom) → IsPacketRoom standing room → room.entries.room ≡ length room.dues.items + room.limit
entries-are standing room is = ap (λ (held : Held). held.room) is.entries

-- for what is owed first
pub opening-room : (acks : ℕ) (standing : SessionState) (jobs bindings : ℕ) (room : PacketRoom) → CanTake standing jobs bindings room → acks ≤ length room.dues.items
    → room_min ≤ numbers_left standing → HasRoom 2 (new_session_bytes + acks_bytes acks) 0 standing (turn_in room)
opening-room acks standing jobs bindings room is few numbers =
    let places = places-are standing room is.taken in
    let bytes = bytes-are standing room is.taken in
    record {
      places = omega (arith, places);
      bytes = omega (arith, bytes, few);
      numbers = omega (arith, numbers);
      entries = omega arith;
    }

-- for the judgements after it
pub settling-room : (called : Kept → Bool) (now acks : ℕ) (standing after : SessionState) (jobs bindings : ℕ) (room : PacketRoom) (left : Turn) → CanTake standing jobs bindings room
    → acks ≤ length room.dues.items → room_min ≤ numbers_left standing → CallsFor called (calls_by room.dues.items)
    → Spends now 2 (new_session_bytes + acks_bytes acks) 0 standing (turn_in room) after left → NoMoreUnsaid standing room.speech.owing after left.owing
    → outbox_of after ≡ outbox_of standing
    → HasSpare called (settling_messages (length room.dues.items) room.limit) (settling_bytes room.dues.items room.limit)
    (length room.dues.items + room.limit) (settling_messages (length room.dues.items) room.limit) after left
settling-room called now acks standing after jobs bindings room left is few numbers asked spends unsaid same =
    let places = places-are standing room is.taken in
    let bytes = bytes-are standing room is.taken in
    let entries = entries-are standing room is.taken in
    let no_more = unsaid-few called (calls_by room.dues.items) standing room.speech.owing room.called asked is.taken.called in
    let no_longer = unsaid-short called (calls_by room.dues.items) standing room.speech.owing room.called asked is.taken.called in
    let said = unsaid.count called in
    let said_bytes = unsaid.bytes called in
    let replies = ap (λ (outbox : Contents). outbox.room) same in
    record {
      places = omega (arith, places, spends.places, said, no_more);
      bytes = omega (arith, bytes, spends.bytes, said_bytes, no_longer, few);
      numbers = omega (arith, numbers, spends.numbers, is.taken.numbers);
      entries = omega (arith, entries, spends.entries);
      replies = omega (arith, replies, is.replies);
    }

-- for sending all of it
pub sending-room : (called : Kept → Bool) (now acks size answers kept : ℕ) (standing after last : SessionState) (jobs bindings : ℕ) (room : PacketRoom) (left end : Turn) → CanTake standing jobs bindings room
    → room_min ≤ numbers_left standing → Spends now 2 (new_session_bytes + acks_bytes acks) 0 standing (turn_in room) after left
    → Uses called now (settling_messages (length room.dues.items) room.limit) size answers kept after left last end → CanSend now standing last room end
sending-room called now acks size answers kept standing after last jobs bindings room left end is numbers spends uses =
    let speech = is.taken.speech in
    let taken = ap (λ (dues : Dues). dues.places_taken) speech.owing in
    let bytes_taken = ap (λ (dues : Dues). dues.bytes_taken) speech.owing in
    let messages = ap (λ (batch : Batch). batch.messages) speech.packets in
    let bytes = ap (λ (batch : Batch). batch.bytes) speech.packets in
    let room_is = ap (λ (going : Going). going.room) speech.outs in
    let most = ap (λ (batch : Batch). packets_most batch.messages batch.bytes) speech.packets in
    record {
      few = omega (arith, uses.places_taken, spends.places_taken, taken, messages);
      short = omega (arith, uses.bytes_taken, spends.bytes_taken, bytes_taken, bytes);
      numbers = omega (arith, numbers, spends.numbers, uses.numbers, is.taken.numbers);
      outs = omega (arith, room_is, most);
      nothing = ap (λ (going : Going). going.outs) speech.outs;
      key = uses.key ∙ spends.key;
      number = uses.number ∙ spends.number;
      at = λ is. uses.at (spends.at is);
    }
