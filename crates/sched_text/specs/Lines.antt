-- A text's lines, and a line's words.
use Rattle.std.specs.Prelude.{◌≡◌, ℕ, ◌+◌, ◌==◌, ◌||◌, Bool, true, if◌then◌else◌, List, [], ◌∷◌, ◌⊎◌}

-- ---- lines

-- a byte before those of the first piece
abbrev pub onto_first : ℕ → List (List ℕ) → List (List ℕ)
onto_first byte [] = (byte ∷ []) ∷ []
onto_first byte (piece ∷ pieces) = (byte ∷ piece) ∷ pieces

-- the lines of a text: each ends with a newline, which the last may lack
abbrev pub lines_of : List ℕ → List (List ℕ)
lines_of [] = []
lines_of (byte ∷ bytes) = if byte == 10 then [] ∷ lines_of bytes else onto_first byte (lines_of bytes)

-- an empty line, or one that begins with `#`
abbrev pub is_left_out : List ℕ → Bool
is_left_out [] = true
is_left_out (byte ∷ bytes) = byte == 35

-- a line and its number; the first line of a text is 1
pub record Line : Type 0 where
  pub number : ℕ
  pub text : List ℕ

-- those of the lines that aren't left out, the first of all having this number; each line is counted
abbrev pub numbered : ℕ → List (List ℕ) → List Line
numbered number [] = []
numbered number (line ∷ lines) =
    if is_left_out line then numbered (number + 1) lines else record { number = number; text = line } ∷ numbered (number + 1) lines

-- the lines of a text that have to say something
abbrev pub lines_in : List ℕ → List Line
lines_in text = numbered 1 (lines_of text)

-- ---- words

-- a blank: a space or a tab
abbrev pub is_blank : ℕ → Bool
is_blank byte = byte == 32 || byte == 9

-- the words of a line: one blank stands between two
abbrev pub words_of : List ℕ → List (List ℕ)
words_of [] = [] ∷ []
words_of (byte ∷ bytes) = if is_blank byte then [] ∷ words_of bytes else onto_first byte (words_of bytes)

-- ---- what lines say, one thing each

-- the lines say these, in order
abbrev pub Say : {T : Type 0} → (Line → T → Type 0) → List Line → List T → Type 0
Say Says [] [] = Unit {0}
Say Says [] (said ∷ more) = ⊥
Say Says (line ∷ lines) [] = ⊥
Say Says (line ∷ lines) (said ∷ more) = Says line said × Say Says lines more

-- the line says nothing
abbrev pub SaysNothing : {T : Type 0} → (Line → T → Type 0) → Line → Type 0
SaysNothing {T = T} Says line = (said : T) → Says line said → ⊥

-- the line of this number is the first of the lines that says nothing
abbrev pub IsFirstBad : {T : Type 0} → (Line → T → Type 0) → List Line → ℕ → Type 0
IsFirstBad Says [] bad = ⊥
IsFirstBad {T = T} Says (line ∷ lines) bad =
    (SaysNothing Says line × (bad ≡ line.number)) ⊎ (((said : T) × Says line said) × IsFirstBad Says lines bad)
