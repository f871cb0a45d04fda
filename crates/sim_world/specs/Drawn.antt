-- The words that a world is drawn from.
use Rattle.std.specs.Prelude.{ℕ, ◌+◌, ◌%◌, ◌^◌}
use Rattle.draws.specs.Steps.{step_word}

-- a `StepDraw` that gave so many words: its next word, and how many it gave then, modulo 2^64
abbrev pub steps_of_words : ℕ → ℕ × ℕ
steps_of_words given = (step_word (given + 1), (given + 1) % 2 ^ 64)
