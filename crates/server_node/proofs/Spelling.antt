-- The writer's frames, one packet more.
use Rattle.std.proofs.Common.{◌≡◌, ℕ, List, [], ◌∷◌, ◌++◌, Option, None, Some, refl}
use Rattle.cipher_modes.specs.CounterMode.{CtrState}
use Rattle.transport.specs.Directions.{through}
use Rattle.transport.specs.Spelt.{Spells, SpellsMore, framed}
use Rattle.transport.specs.Wires.{Line, Tells}
use Rattle.server_node.specs.Frames.{AreFramesOf}
use Rattle.server_node.specs.Steps.{Framings}

-- its frame stands behind a text
pub framed_one : (old new : Line) (packet text text_then : List ℕ) → SpellsMore old new packet → text_then ≡ text ++ framed old packet → Framings old text (packet ∷ []) new text_then
framed_one old new packet text text_then more behind = record { bytes = framed old packet; behind = behind; tells = more }

-- nothing was sent yet
none_through : (stream : Option CtrState) → through stream [] ≡ []
none_through None = refl
none_through (Some stream) = refl

pub none_spelt : (line : Line) (to : Option CtrState) → Tells line to [] [] → Spells line to [] []
none_spelt line to tells = record { tells = tells; spelt = none_through to }

-- as frames alone, whatever the wire is then
pub frames_in : (line : Line) (to : Option CtrState) (packets : List (List ℕ)) (bytes : List ℕ) → Spells line to packets bytes → AreFramesOf line.form to packets bytes
frames_in line to packets bytes spells = record { reads = spells.tells.frames; spelt = spells.spelt }
