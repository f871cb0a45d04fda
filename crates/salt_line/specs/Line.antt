-- Salt lines.
use Rattle.std.specs.Prelude.{◌≡◌, ◌≢◌, ℕ, nat_lt, List, [], ◌∷◌, Any, filter}
use Rattle.salt_line.specs.Rows.{Row, IsValidAt, period_at, until}
use Rattle.salt_line.specs.Needed.{word_in, needed_from}

-- a line: its start, and all rows that were ever drawn, in order
pub record Line : Type 0 where
  pub start : ℕ
  pub rows : List Row

-- a line with this start whose first word is drawn already
abbrev pub fresh_line : ℕ → ℕ → Line
fresh_line start word = record { start = start; rows = record { period = 0; word = word } ∷ [] }

-- this salt is valid at this moment: it isn't 0, and a row with this word is valid
abbrev pub IsValidSalt : Line → ℕ → ℕ → Type 0
IsValidSalt line now salt = (salt ≢ 0) × Any (λ row. (row.word ≡ salt) × IsValidAt line.start row now) line.rows

-- the rows and the draw after the rows of n periods from the current one on are needed
abbrev pub drawn_rows : {S : Type 0} → (S → ℕ × S) → ℕ → ℕ → Line → S → List Row × S
drawn_rows step now n line draw = needed_from step (period_at line.start now) n (line.rows, draw)

-- the line after that
abbrev pub line_after : {S : Type 0} → (S → ℕ × S) → ℕ → ℕ → Line → S → Line
line_after step now n line draw = record line { rows = (drawn_rows step now n line draw).0 }

-- the draw after that
abbrev pub draw_after_rows : {S : Type 0} → (S → ℕ × S) → ℕ → ℕ → Line → S → S
draw_after_rows step now n line draw = (drawn_rows step now n line draw).1

-- the word of the row of the current period
abbrev pub current_salt : Line → ℕ → ℕ
current_salt line now = word_in (period_at line.start now) line.rows

-- what a contract sees of a `SaltLine`: its start, the greatest moment that `current` or `future` was given, at first
-- the start, and the rows that it keeps
pub record Kept : Type 0 where
  pub start : ℕ
  pub latest : ℕ
  pub rows : List Row

-- what is kept stands for a line: it has the line's start, and those of the line's rows that end after the latest moment
pub record Stands (kept : Kept) (line : Line) : Type 0 where
  pub start : kept.start ≡ line.start
  pub rows : kept.rows ≡ filter (λ row. nat_lt kept.latest (until line.start row.period)) line.rows
