-- What a buffer holds.
use Rattle.std.specs.Prelude.{ℕ, List}

-- the bytes that were written so far, and for how many more there is room
pub record Draft : Type 0 where
  pub bytes : List ℕ
  pub room : ℕ
