-- The words that the world of `sim` is drawn from.
use Rattle.std.specs.Prelude.{ℕ, ◌+◌, ◌-◌, ◌^◌, min}
use Rattle.draws.specs.Steps.{step_word}

-- so many words at most are counted
abbrev pub words_max : ℕ
words_max = 2 ^ 64 - 1

-- where so many were given: the next word, and how many were given then, as far as they are counted
abbrev pub counted_step : ℕ → ℕ × ℕ
counted_step given = (step_word (given + 1), min (given + 1) words_max)
