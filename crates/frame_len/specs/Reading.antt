-- What a reader holds.
use Rattle.std.specs.Prelude.{Bool, List, ℕ}
use Rattle.framing.specs.Held.{Held, nothing, with_piece}
use Rattle.framing.specs.Holding.{Stands}
use Rattle.frame_len.specs.Lengths.{form_of}

-- whether its frames are padded, and the buffer of its stream
pub record Reading : Type 0 where
  pub padded : Bool
  pub stream : Held

-- a fresh one
abbrev pub fresh : Bool → Reading
fresh padded = record { padded = padded; stream = nothing }

-- what it holds once the stream's next piece has come
abbrev pub fed : List ℕ → Reading → Reading
fed piece reading = record reading { stream = with_piece piece reading.stream }

-- it stands for a stream of these bytes of which these packets were taken
unfoldable pub StandsFor : Reading → List (List ℕ) → List ℕ → Type 0
StandsFor reading packets bytes = Stands (form_of reading.padded) reading.stream packets bytes
