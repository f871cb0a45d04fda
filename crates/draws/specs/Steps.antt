-- The words of a `StepDraw`.
use Rattle.std.specs.Prelude.{ℕ, ◌*◌, ◌%◌, ◌^◌}

-- word i, from 1: the multiples of an odd number, modulo 2^64
abbrev pub step_word : ℕ → ℕ
step_word i = 6364136223846793005 * i % 2 ^ 64
