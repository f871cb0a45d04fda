-- The frames that go out over a wire, as the writer of its form spells them (core.telegram.org/mtproto/mtproto-transports).
use Rattle.std.specs.Prelude.{◌≡◌, ℕ, ◌+◌, List, [], ◌∷◌, ◌++◌, Option}
use Rattle.cipher_modes.specs.CounterMode.{CtrState}
use Rattle.framing.specs.Streams.{number_after}
use Rattle.transport.specs.Directions.{through}
use Rattle.transport.specs.Forms.{frame_of}
use Rattle.transport.specs.Wires.{Line, Tells}
use Rattle.transport.specs.declared.form.Form.{Form}

-- the frame of a packet as it goes over a wire
abbrev pub framed : Line → List ℕ → List ℕ
framed line packet = through line.writing (frame_of line.form line.number packet)

-- the writer's frames of these packets, the first of them behind so many others: without padding, with the short head where a
-- packet has one
abbrev pub frames_of : Form → ℕ → List (List ℕ) → List ℕ
frames_of form count [] = []
frames_of form count (packet ∷ packets) = frame_of form (number_after count) packet ++ frames_of form (count + 1) packets

-- These packets went out over a wire as these bytes behind its start: they read as the packets, and are the writer's frames.
pub record Spells (line : Line) (to : Option CtrState) (packets : List (List ℕ)) (bytes : List ℕ) : Type 0 where
  pub tells : Tells line to packets bytes
  pub spelt : through to bytes ≡ frames_of line.form 0 packets

-- what a wire has told it tells with this packet behind it, once the wire is another
abbrev pub TellsMore : Line → Line → List ℕ → Type 0
TellsMore old new packet = (to : Option CtrState) (packets : List (List ℕ)) (bytes : List ℕ) → Tells old to packets bytes
    → Tells new to (packets ++ packet ∷ []) (bytes ++ framed old packet)

-- and as the writer's frames
abbrev pub SpellsMore : Line → Line → List ℕ → Type 0
SpellsMore old new packet = (to : Option CtrState) (packets : List (List ℕ)) (bytes : List ℕ) → Spells old to packets bytes
    → Spells new to (packets ++ packet ∷ []) (bytes ++ framed old packet)
