-- Both ends of a connection, each with all bytes that went over it from the client, the start among them.
use Rattle.std.specs.Prelude.{◌≡◌, ℕ, List, Option, None, Some}
use Rattle.framing.specs.declared.next.Next.{Next}
use Rattle.framing.specs.declared.next.Next.TheVariants.{Packet, More, Fault}
use Rattle.transport.specs.Starts.{Opening, Starts}
use Rattle.transport.specs.Wires.{Line, Hears, Tells}

-- a client's end that has sent these bytes in all, and with them these packets, one at least
pub record Sends (line : Line) (packets : List (List ℕ)) (bytes : List ℕ) : Type 0 where
  pub opening : Opening
  pub rest : List ℕ
  pub starts : Starts bytes opening rest
  pub form : line.form ≡ opening.form
  pub tells : Tells line opening.up packets rest

-- a server's end that was given these bytes in all, and has lent these packets of them
pub record Takes (line : Line) (packets : List (List ℕ)) (bytes : List ℕ) : Type 0 where
  pub opening : Opening
  pub rest : List ℕ
  pub starts : Starts bytes opening rest
  pub form : line.form ≡ opening.form
  pub hears : Hears line opening.up packets rest

-- the packet that is lent, where one is
abbrev pub packet_of : Next → Option (List ℕ)
packet_of (Packet lent) = Some lent.now
packet_of More = None
packet_of (Fault fault) = None
