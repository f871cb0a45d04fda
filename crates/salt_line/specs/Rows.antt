-- Rows of salts, and when they are valid (core.telegram.org/mtproto/description, "Server Salt"). How often a row comes,
-- and how long it is valid, is this project's choice.
use Rattle.std.specs.Prelude.{ℕ, ◌+◌, ◌-◌, ◌*◌, ◌/◌, ◌<◌, ◌≤◌}

-- how many seconds after one period the next begins
abbrev pub period_seconds : ℕ
period_seconds = 1800

-- how many seconds a row is valid
abbrev pub valid_seconds : ℕ
valid_seconds = 3600

-- how many rows are handed out at most
abbrev pub future_rows_max : ℕ
future_rows_max = 64

-- a row: its period, counted from 0 at the start of the line, and the word that was drawn for it
pub record Row : Type 0 where
  pub period : ℕ
  pub word : ℕ

-- the first moment at which the row of a period is valid
abbrev pub since : ℕ → ℕ → ℕ
since start period = start + period_seconds * period

-- the first moment at which it isn't valid any more
abbrev pub until : ℕ → ℕ → ℕ
until start period = since start period + valid_seconds

-- the row is valid at this moment, in a line with this start
abbrev pub IsValidAt : ℕ → Row → ℕ → Type 0
IsValidAt start row now = (since start row.period ≤ now) × (now < until start row.period)

-- the row has ended at this moment
abbrev pub HasEnded : ℕ → Row → ℕ → Type 0
HasEnded start row now = until start row.period ≤ now

-- the period of a moment, whose row gives the current salt
abbrev pub period_at : ℕ → ℕ → ℕ
period_at start now = (now - start) / period_seconds
