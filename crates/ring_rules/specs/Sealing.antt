-- What a ring seals, worked out (core.telegram.org/mtproto/description, "Encrypted Message").
use Rattle.std.specs.Prelude.{ℕ, Option, Some, None, List, []}
use Rattle.auth_keys.specs.declared.ring.RingKey.{RingKey}
use Rattle.envelope.specs.declared.parts.Dir.{Dir}
use Rattle.envelope.specs.declared.parts.Envelope.{Envelope}
use Rattle.envelope.specs.Packet.{Lock, packet_of}

-- the packet of an envelope with a padding, under a key of a ring, where there is one
abbrev pub packet_under : Lock → Option RingKey → Dir → Envelope → List ℕ → List ℕ
packet_under lock None dir envelope padding = []
packet_under lock (Some entry) dir envelope padding = packet_of lock entry.key dir envelope padding
