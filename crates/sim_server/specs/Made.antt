-- The packets of a world as they are kept: by their bytes.
use Rattle.std.specs.Prelude.{ℕ, Bool, true, false, Option, Some, None, List, [], ◌∷◌, map}
use Rattle.server_output.specs.declared.outs.Out.{Out}
use Rattle.sim_server.specs.declared.bag.Batch.{Batch}
use Rattle.sim_server.specs.declared.bag.Packet.{Packet}
use Rattle.sim_server.specs.declared.bag.Packet.TheVariants as lent
use Rattle.sim_server.specs.declared.bag.Packets.{Packets}
use Rattle.sim_server.specs.declared.bag.Packets.TheVariants as kept

-- a packet that goes up to the server, or down to the client that has or had this session number
pub data Made : Type 0 where
  GoesUp : (bytes : List ℕ) → Made
  GoesDown : (session : ℕ) (bytes : List ℕ) → Made

-- there is a packet, and it goes up
abbrev pub goes_up : Option Made → Bool
goes_up (Some (GoesUp bytes)) = true
goes_up (Some (GoesDown session bytes)) = false
goes_up None = false

abbrev pub made_of_out : Out → Made
made_of_out out = GoesDown out.session out.packet

-- a packet that is lent
abbrev pub packet_told : Packet → Made
packet_told (lent.Up bytes) = GoesUp bytes.now
packet_told (lent.Down session bytes) = GoesDown session bytes.now

-- Scaffolding, and no promise: what one event made.
abbrev pub packets_told : Packets → List Made
packets_told (kept.Up bytes) = GoesUp bytes ∷ []
packets_told (kept.Down outs) = map made_of_out outs.items

abbrev pub packets_in : Batch → List Made
packets_in batch = packets_told batch.packets
