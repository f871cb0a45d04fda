-- Scaffolding, no promise: how the kept rows are held, as the words of periods that follow one another.
use Rattle.std.specs.Prelude.{◌≡◌, ℕ, suc, ◌+◌, ◌<◌, ◌≤◌, List, [], ◌∷◌}
use Rattle.msg_ids.specs.Moments.{latest_moment}
use Rattle.salt_line.specs.Rows.{Row, future_rows_max, period_at}

-- the rows of these words, the first of them of this period
abbrev pub rows_of : ℕ → List ℕ → List Row
rows_of first [] = []
rows_of first (word ∷ words) = record { period = first; word = word } ∷ rows_of (suc first) words

-- the row has this word, and its period is this one or the one before
abbrev pub IsIn : ℕ → ℕ → Row → Type 0
IsIn period word row = (row.word ≡ word) × (row.period ≤ period) × (period < row.period + 2)

-- how many rows there is room for: those that are handed out at most, and the one before
abbrev pub rows_max : ℕ
rows_max = 65

-- which rows are held at a period: no ended one, none far ahead, and all between
pub record AreHeld (period first count capacity : ℕ) : Type 0 where
  pub none_ended : period ≤ first + 1
  pub none_left_out : first ≤ period
  pub all_so_far : period ≤ first + count
  pub near : first + count ≤ period + future_rows_max
  pub room : capacity ≡ rows_max

-- which rows are held by a line
pub record IsHeld (start latest first count capacity : ℕ) : Type 0 where
  pub started : start ≤ latest
  pub early : latest ≤ latest_moment
  pub held : AreHeld (period_at start latest) first count capacity
