-- Worlds of which each packet is one that may be sealed.
use Rattle.std.specs.Prelude.{ℕ, Bool, is_some, List}
use Rattle.std.specs.List.{AllByRecursion}
use Rattle.auth_keys.specs.Rings.{entry_of}
use Rattle.auth_keys.specs.declared.ring.RingKey.{RingKey}
use Rattle.envelope.specs.Packet.{Lock, Sealed}
use Rattle.law_packets.specs.Steady as client
use Rattle.law_server_bounds.specs.Steady as server
use Rattle.world_rules.specs.Setting.{Setting}
use Rattle.world_rules.specs.World.{Packet, World, bytes_of}

-- the packet is its envelope, lawful and sealed with its padding in its direction under a key of the ring
abbrev pub IsSealedPacket : {S V : Type 0} → Lock → List RingKey → Setting S V → Packet → Type 0
IsSealedPacket lock ring setting packet = Sealed lock ring packet.dir packet.envelope packet.padding (bytes_of setting packet)

-- so is each packet of a world
abbrev pub AreLawfulPackets : {S V : Type 0} → Lock → List RingKey → Setting S V → World S V → Type 0
AreLawfulPackets lock ring setting world = AllByRecursion (IsSealedPacket lock ring setting) world.bag

-- the ring has a key with this identifier
abbrev pub is_held : List RingKey → ℕ → Bool
is_held ring key = is_some (entry_of key ring)

-- the clients and the server of a world stand such that each packet that they make is lawful, and so are those that were made
pub record IsSteady {S V : Type 0} (lock : Lock) (ring : List RingKey) (setting : Setting S V) (world : World S V) : Type 0 where
  pub seats : AllByRecursion (λ seat. client.IsSteady (is_held ring) seat.client) world.seats
  pub server : server.IsSteady (is_held ring) world.server
  pub bag : AreLawfulPackets lock ring setting world
