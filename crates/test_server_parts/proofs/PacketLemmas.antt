use Rattle.std.proofs.Common.{◌≡◌, ℕ, List, map, take}
use Rattle.std.proofs.lemmas.List.{take-map}
use Rattle.containers.specs.declared.part.Part.{Part}
use Rattle.containers.specs.Lent.{message_of}
use Rattle.packing.specs.Packing.{IsPacket}

-- the messages of the first parts are the first messages
pub first_are_packet : (parts : List Part) (count : ℕ) → IsPacket (take count (map message_of parts)) → IsPacket (map message_of (take count parts))
first_are_packet parts count packet = rw (← take-map message_of count parts) packet
