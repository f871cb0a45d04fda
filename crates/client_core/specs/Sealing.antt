-- What is known of a packet that a flush told, whatever client it was.
use Rattle.std.specs.Prelude.{List, ⊤}
use Rattle.auth_keys.specs.declared.ring.RingKey.{RingKey}
use Rattle.envelope.specs.Packet.{Lock}
use Rattle.client_rules.specs.Sending.{Packet}
use Rattle.client_core.specs.Flushed.{IsSealed}
use Rattle.client_core.specs.declared.flush.Flush.{Flush}
use Rattle.client_core.specs.declared.flush.Flush.TheVariants as told

-- a packet that was told is sealed under a key of the ring
abbrev pub TellsSealed : Lock → List RingKey → Flush → Type 0
TellsSealed lock keys (told.Packet bytes) = (packet : Packet) × IsSealed lock keys packet bytes
TellsSealed lock keys told.Nothing = ⊤
TellsSealed lock keys told.Spent = ⊤
TellsSealed lock keys told.Memory = ⊤
