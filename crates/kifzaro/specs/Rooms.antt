-- Bytes in room that the caller lends.
use Rattle.std.specs.Prelude.{◌≡◌, ◌<◌, ℕ, List, ◌++◌, drop, length, Result, Ok, Err}
use Rattle.kifzaro.specs.declared.error.Error.{Error}
use Rattle.kifzaro.specs.declared.error.Error.TheVariants as errors

-- all of the bytes stand at the front of the room, and behind them what stood there; or the room is too short for them, and
-- stays as it was
abbrev pub TellsRoom : List ℕ → List ℕ → List ℕ → Result ℕ Error → Type 0
TellsRoom bytes before after (Ok len) = (len ≡ length bytes) × (after ≡ bytes ++ drop (length bytes) before)
TellsRoom bytes before after (Err (errors.TooShort needed)) = (needed ≡ length bytes) × (length before < needed) × (after ≡ before)
TellsRoom bytes before after (Err other) = ⊥
