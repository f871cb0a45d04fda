-- The room that a packet's event takes before anything is judged.
use Rattle.std.specs.Prelude.{◌≡◌, ◌≤◌, ℕ, ◌+◌, ◌*◌, Option, Some, None, List, [], ◌∷◌, length, map, sum_by, vec_capacity}
use Rattle.service_tl.specs.declared.lists.Message.{Message}
use Rattle.id_window.specs.declared.mark.Mark.{Mark}
use Rattle.inbox.specs.Kinds.{inner_messages}
use Rattle.server_dispatch.specs.declared.action.Action.TheVariants.{Nothing}
use Rattle.server_dispatch.specs.Action.{due_needed}
use Rattle.server_dispatch.specs.Contents.{short_bytes_max}
use Rattle.server_output.specs.Batch.{packets_most}
use Rattle.server_output.specs.Items.{acks_bytes, new_session_bytes, result_bytes}
use Rattle.server_rules.specs.Answer.{room_min}
use Rattle.server_dispatch.specs.declared.dues.Due.{Due}
use Rattle.server_dispatch.specs.declared.turn.Turn.{Turn}
use Rattle.server_session.specs.declared.session.SessionState.{SessionState}
use Rattle.server_session.specs.SessionState.{IsAt, key_of, number_of, numbers_left, replies_left}
use Rattle.server_session.specs.Unsaid.{IsCalled}
use Rattle.server_core.specs.declared.room.PacketRoom.{PacketRoom}
use Rattle.server_core.specs.SettlingAll.{calls_by, due_most}
use Rattle.server_core.specs.Speech.{IsRoomFor}

-- What each message of a packet needs where it is accepted: the one in the envelope, and then those inside it. Where the number
-- of the first is kept, with this mark, none is accepted, and it is judged alone.
abbrev pub dues_in : Option Mark → Message → List Due
dues_in None message = map due_needed (message ∷ inner_messages message)
dues_in (Some mark) message = record { number = message.number; action = Nothing } ∷ []

-- the bytes of bodies that messages take at most, accepted or not
abbrev pub dues_most : List Due → ℕ
dues_most dues = sum_by due_most dues

-- How much a packet takes at most, of so many messages, of whose jobs and the session's so many may fail by it, beside kept
-- replies that are said again: two messages for each, one for each job, and first that the session is new and what it received.

abbrev pub settling_messages : ℕ → ℕ → ℕ
settling_messages count limit = 2 * count + limit

abbrev pub settling_bytes : List Due → ℕ → ℕ
settling_bytes dues limit = dues_most dues + limit * result_bytes short_bytes_max

abbrev pub opening_bytes : ℕ → ℕ
opening_bytes count = new_session_bytes + acks_bytes count

abbrev pub packet_messages : ℕ → ℕ → ℕ
packet_messages count limit = 2 + settling_messages count limit

abbrev pub packet_bytes : List Due → ℕ → ℕ
packet_bytes dues limit = opening_bytes (length dues) + settling_bytes dues limit

-- There is room for all that a session says and records by a packet that it hasn't judged yet, and for the kept replies that its
-- messages may call for.
pub record IsPacketRoom (standing : SessionState) (room : PacketRoom) : Type 0 where
  pub few : length room.dues.items ≤ 1021
  pub no_acks : room.acks.items ≡ []
  pub acks : length room.dues.items ≤ vec_capacity room.acks
  pub called : IsCalled (calls_by room.dues.items) standing room.called
  pub speech :
      IsRoomFor
      (packet_messages (length room.dues.items) room.limit + room.called.count)
      (packet_bytes room.dues.items room.limit + room.called.bytes)
      room.speech
  pub entries : room.entries ≡ record { entries = []; room = length room.dues.items + room.limit }
  -- its messages and its packets have numbers where the session has those of an event
  pub numbers :
      packet_messages (length room.dues.items) room.limit + packets_most room.speech.packets.messages room.speech.packets.bytes ≤ room_min

-- And so has the session for replies, and there is room for jobs and bindings.
pub record CanTake (standing : SessionState) (job_room binding_room : ℕ) (room : PacketRoom) : Type 0 where
  pub taken : IsPacketRoom standing room
  pub replies : settling_messages (length room.dues.items) room.limit ≤ replies_left standing
  pub jobs : length room.dues.items ≤ job_room
  pub bindings : length room.dues.items ≤ binding_room

-- what the session has so far of the event then: nothing, and this room
abbrev pub turn_in : PacketRoom → Turn
turn_in room = record { owing = room.speech.owing; entries = room.entries }

-- What is left after such an event is enough to send all that the session owes, under its key and its number.
pub record CanSend (now : ℕ) (standing last : SessionState) (room : PacketRoom) (turn : Turn) : Type 0 where
  pub few : turn.owing.places_taken ≤ room.speech.packets.messages
  pub short : turn.owing.bytes_taken ≤ room.speech.packets.bytes
  pub numbers : packets_most room.speech.packets.messages room.speech.packets.bytes ≤ numbers_left last
  pub outs : packets_most room.speech.packets.messages room.speech.packets.bytes ≤ room.speech.outs.room
  pub nothing : room.speech.outs.outs ≡ []
  pub key : key_of last ≡ key_of standing
  pub number : number_of last ≡ number_of standing
  pub at : IsAt now standing → IsAt now last
