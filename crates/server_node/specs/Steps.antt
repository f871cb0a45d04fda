-- What the private parts of a connection do: scaffolding of proofs, and no promise.
use Rattle.std.specs.Prelude.{◌≡◌, ℕ, nat_le, ◌==◌, ◌%◌, ◌&&◌, Bool, List, [], ◌++◌, length, map, Option, Some, None, ⊤}
use Rattle.std.specs.List.{filter}
use Rattle.cipher_modes.specs.CounterMode.{CtrState}
use Rattle.envelope.specs.Packet.{block_bytes, packet_max, packet_min}
use Rattle.mt_edge.specs.Links.{Told}
use Rattle.server_output.specs.declared.outs.Out.{Out}
use Rattle.transport.specs.Wires as wires
use Rattle.server_node.specs.Frames.{AreFramesOf}
use Rattle.transport.specs.Spelt.{Spells}
use Rattle.server_node.specs.Names.{was_heard}
use Rattle.server_node.specs.Writes.{WrittenBy}
use Rattle.server_node.specs.declared.conn.ConnEnd.{ConnEnd}
use Rattle.server_node.specs.declared.conn.ConnEnd.TheVariants as ends
use Rattle.server_core.specs.declared.session_name.SessionName.{SessionName}
use Rattle.server_node.specs.declared.line.Line.{Line}
use Rattle.server_node.specs.declared.line.Line.TheVariants.{Raw, Framed}

-- ---- packets that go out

-- as long as sealed packets are
abbrev pub is_sendable : List ℕ → Bool
is_sendable packet = nat_le packet_min (length packet) && (nat_le (length packet) packet_max && (length packet % block_bytes == 8))

abbrev pub goes_out : List SessionName → Out → Bool
goes_out heard out = was_heard heard (record { key = out.key; session = out.session }) && is_sendable out.packet

abbrev pub going_out : List SessionName → List Out → List (List ℕ)
going_out heard outs = map (λ out. out.packet) (filter (goes_out heard) outs)

-- ---- a line

-- it goes on hearing as it did
abbrev pub IsSameIn : wires.Line → wires.Line → Type 0
IsSameIn before after = (after.form ≡ before.form) × (after.held ≡ before.held) × (after.reading ≡ before.reading)

abbrev pub HearsAlike : Line → Line → Type 0
HearsAlike (Raw wire) after = after ≡ Raw wire
HearsAlike (Framed wire) (Raw other) = ⊥
HearsAlike (Framed wire) (Framed other) = IsSameIn wire other

-- no packet goes out before the form is known
abbrev pub LineTells : Line → Option CtrState → List (List ℕ) → List ℕ → Type 0
LineTells (Raw wire) to packets bytes = (packets ≡ []) × (bytes ≡ [])
LineTells (Framed wire) to packets bytes = Spells wire to packets bytes

-- they are the frames of these packets in its form
abbrev pub LineFrames : Line → Option CtrState → List (List ℕ) → List ℕ → Type 0
LineFrames (Raw wire) to packets bytes = (packets ≡ []) × (bytes ≡ [])
LineFrames (Framed wire) to packets bytes = AreFramesOf wire.form to packets bytes

-- of these packets, a front went out
pub record IsFront (wire : wires.Line) (to : Option CtrState) (packets : List (List ℕ)) (bytes : List ℕ) : Type 0 where
  pub front : List (List ℕ)
  pub rest : List (List ℕ)
  pub whole : packets ≡ front ++ rest
  pub frames : AreFramesOf wire.form to front bytes

abbrev pub LineFront : Line → Option CtrState → List (List ℕ) → List ℕ → Type 0
LineFront (Raw wire) to packets bytes = bytes ≡ []
LineFront (Framed wire) to packets bytes = IsFront wire to packets bytes

-- unless memory ran out these packets went out
abbrev pub SentBy : Option ConnEnd → Line → Option CtrState → List (List ℕ) → List ℕ → Type 0
SentBy (Some ends.Memory) line to packets bytes = LineFront line to packets bytes
SentBy None line to packets bytes = LineTells line to packets bytes
SentBy (Some ends.LinkFault) line to packets bytes = LineTells line to packets bytes
SentBy (Some ends.Ended) line to packets bytes = LineTells line to packets bytes
SentBy (Some (ends.Frame fault)) line to packets bytes = LineTells line to packets bytes
SentBy (Some ends.Start) line to packets bytes = LineTells line to packets bytes
SentBy (Some ends.TurnsSpent) line to packets bytes = LineTells line to packets bytes
SentBy (Some ends.Stopped) line to packets bytes = LineTells line to packets bytes
SentBy (Some (ends.Journal fault)) line to packets bytes = LineTells line to packets bytes

-- nothing was heard before the form is known
abbrev pub IsQuiet : Line → List SessionName → Type 0
IsQuiet (Raw wire) heard = heard ≡ []
IsQuiet (Framed wire) heard = ⊤

-- the ways in which sending ends
abbrev pub IsSendEnd : Option ConnEnd → Type 0
IsSendEnd None = ⊤
IsSendEnd (Some ends.LinkFault) = ⊤
IsSendEnd (Some ends.Memory) = ⊤
IsSendEnd (Some ends.Ended) = ⊥
IsSendEnd (Some (ends.Frame fault)) = ⊥
IsSendEnd (Some ends.Start) = ⊥
IsSendEnd (Some ends.TurnsSpent) = ⊥
IsSendEnd (Some ends.Stopped) = ⊥
IsSendEnd (Some (ends.Journal fault)) = ⊥

-- these packets were sent
pub record Said (line : Line) (heard : List SessionName) (told : Option Told) (packets : List (List ℕ)) (end : Option ConnEnd) (line_then : Line) (told_then : Option Told) : Type 0 where
  pub bytes : List ℕ
  pub sends : (to : Option CtrState) (before : List (List ℕ)) (text : List ℕ) → IsQuiet line heard → LineTells line to before text → SentBy end line_then to (before ++ packets) (text ++ bytes)
  pub written : WrittenBy end bytes told told_then

-- their frames stand behind a text
pub record Framings (wire : wires.Line) (text : List ℕ) (packets : List (List ℕ)) (wire_then : wires.Line) (text_then : List ℕ) : Type 0 where
  pub bytes : List ℕ
  pub behind : text_then ≡ text ++ bytes
  pub tells : (to : Option CtrState) (before : List (List ℕ)) (sent : List ℕ) → Spells wire to before sent → Spells wire_then to (before ++ packets) (sent ++ bytes)
