-- How a server puts messages into packets (core.telegram.org/mtproto/service_messages, "Containers").
use Rattle.std.specs.Prelude.{ℕ, ◌+◌, ◌&&◌, nat_le, Bool, false, if◌then◌else◌, List, [], ◌∷◌, ◌++◌, length}
use Rattle.msg_ids.specs.Counters.{Counters, next_number, seq_of, after_next}
use Rattle.service_tl.specs.declared.lists.Message.{Message}
use Rattle.containers.specs.Container.{container_of, AreWithin, messages_max, bytes_max, size_of}
use Rattle.packing.specs.Numbering.{other_addition}

-- the messages can stand in one container: at most 1,020, and 1,044,480 bytes with their heads
abbrev pub is_within : List Message → Bool
is_within messages = nat_le (length messages) messages_max && nat_le (size_of messages) bytes_max

-- Messages are taken in order: the packet that is begun takes the next one where both can stand in one container; else
-- the next one begins a packet.
abbrev pub grouped : List Message → List Message → List (List Message)
grouped begun [] = begun ∷ []
grouped begun (message ∷ messages) =
    if is_within (begun ++ message ∷ [])
    then grouped (begun ++ message ∷ []) messages
    else begun ∷ grouped (message ∷ []) messages

-- the messages of each packet, in order
abbrev pub groups : List Message → List (List Message)
groups [] = []
groups (message ∷ messages) = grouped (message ∷ []) messages

-- the body of the message in a packet's envelope: that of a single message as it is, that of a container for more
abbrev pub packed : List Message → List ℕ
packed (message ∷ []) = message.body
packed group = container_of group

-- The message that stands in a packet's envelope: a single message as it is, more in a container, which is numbered
-- then.
abbrev pub outer_of : ℕ → Counters → List Message → Message
outer_of now counters (message ∷ []) = message
outer_of now counters group =
    record {
      number = next_number counters.last now + other_addition;
      seq = seq_of counters.content_messages false;
      body = container_of group;
    }

abbrev pub after_outer : ℕ → Counters → List Message → Counters
after_outer now counters (message ∷ []) = counters
after_outer now counters group = after_next counters now false

-- those of several packets, in order, and the counters after them
abbrev pub outers_of : ℕ → Counters → List (List Message) → List Message
outers_of now counters [] = []
outers_of now counters (group ∷ groups) = outer_of now counters group ∷ outers_of now (after_outer now counters group) groups

abbrev pub after_outers : ℕ → Counters → List (List Message) → Counters
after_outers now counters [] = counters
after_outers now counters (group ∷ groups) = after_outers now (after_outer now counters group) groups

-- the packets of messages that all have their numbers, and the counters after them
abbrev pub packets_of : ℕ → Counters → List Message → List Message
packets_of now counters messages = outers_of now counters (groups messages)

abbrev pub after_packets : ℕ → Counters → List Message → Counters
after_packets now counters messages = after_outers now counters (groups messages)

-- the messages of a packet: one at least, and more only where they can stand in one container
abbrev pub IsPacket : List Message → Type 0
IsPacket [] = ⊥
IsPacket (message ∷ []) = Unit {0}
IsPacket group = AreWithin group
