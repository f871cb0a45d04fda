-- Captures as text: lines `up HEX` and `down HEX`.
use Rattle.std.specs.Prelude.{◌≡◌, ◌<◌, ◌⊎◌, ◌==◌, if◌then◌else◌, ℕ, List, [], ◌∷◌, ◌++◌, length, codes, Ok}
use Rattle.hex.specs.Hex.{decode_of, encode_lower}
use Rattle.sched_text.specs.Lines.{Line, lines_in, words_of, Say, IsFirstBad}
use Rattle.cmd_relay.specs.declared.capture.Piece.{Piece}
use Rattle.cmd_relay.specs.declared.capture.Way.{Way}
use Rattle.cmd_relay.specs.declared.capture.Way.TheVariants.{Up, Down}

-- the word for a way
abbrev pub way_word : Way → List ℕ
way_word Up = codes "up"
way_word Down = codes "down"

-- HEX: one pair of hexadecimal digits a byte, of either case, or `-` for no byte
abbrev pub IsHex : List ℕ → List ℕ → Type 0
IsHex bytes word = ((bytes ≡ []) × (word ≡ codes "-")) ⊎ ((0 < length bytes) × (decode_of word ≡ Ok bytes))

-- the words `up HEX` or `down HEX`
pub record SaysBytes (way : Way) (bytes : List ℕ) (words : List (List ℕ)) : Type 0 where
  pub word : List ℕ
  pub two : words ≡ way_word way ∷ word ∷ []
  pub hex : IsHex bytes word

-- the line says this piece, which has its number
abbrev pub SaysPiece : Line → Piece → Type 0
SaysPiece line piece = (piece.line ≡ line.number) × SaysBytes piece.way piece.bytes (words_of line.text)

-- the text spells these pieces, each with the number of its line; empty lines and those that begin with `#` are left out
abbrev pub Spells : List ℕ → List Piece → Type 0
Spells text pieces = Say SaysPiece (lines_in text) pieces

-- the first line of the text that is outside the grammar has this number
abbrev pub HasBadLine : List ℕ → ℕ → Type 0
HasBadLine text bad = IsFirstBad SaysPiece (lines_in text) bad

-- ---- what is written

-- the digits of the bytes in lower case, or `-` for no byte
abbrev pub hex_text : List ℕ → List ℕ
hex_text bytes = if length bytes == 0 then codes "-" else encode_lower bytes

-- the line for what went out by a way
abbrev pub line_of : Way → List ℕ → List ℕ
line_of way bytes = way_word way ++ codes " " ++ hex_text bytes ++ codes "\n"
