-- Lines that tell why an input is refused.
use Rattle.std.specs.Prelude.{◌≡◌, ◌<◌, ℕ, codes, decimal, List, ◌++◌, length}

-- the most bytes of an input
abbrev pub input_bytes_max : ℕ
input_bytes_max = 16777216

-- a line that is refused, with its cause
abbrev pub refusal_line : ℕ → List ℕ → List ℕ
refusal_line line cause = codes "refused at line " ++ decimal line ++ codes ": " ++ cause ++ codes "\n"

-- a line outside the grammar
abbrev pub bad_line : ℕ → List ℕ
bad_line line = refusal_line line (codes "bad line")

-- an input of more bytes
abbrev pub too_long : List ℕ
too_long = codes "input too long\n"

-- more bytes than an input may have, and the line that tells of it
pub record IsTooLong (text due : List ℕ) : Type 0 where
  pub long : input_bytes_max < length text
  pub told : due ≡ too_long

-- words that say no command
abbrev pub words_refused : List ℕ
words_refused = codes "words refused\n"
