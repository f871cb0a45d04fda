-- What bytes that open at an end are.
use Rattle.std.specs.Prelude.{◌≡◌, ◌<◌, ◌^◌, length}
use Rattle.std.specs.List.{Contains}
use Rattle.envelope.specs.declared.parts.Dir.{Dir}
use Rattle.envelope.specs.declared.parts.Envelope.{Envelope}
use Rattle.envelope.specs.Packet.{IsEnvelope}
use Rattle.world_rules.specs.World.{Packet, World}

-- the envelope of a packet of the world that goes this way
pub record IsOfPacket {S V : Type 0} (world : World S V) (dir : Dir) (envelope : Envelope) : Type 0 where
  pub packet : Packet
  pub made : Contains world.bag packet
  pub way : packet.dir ≡ dir
  pub same : packet.envelope ≡ envelope

-- an envelope that opens: its numbers fit their places, and its body is short
pub record IsShort (envelope : Envelope) : Type 0 where
  pub lawful : IsEnvelope envelope
  pub body : length envelope.body < 2 ^ 24
