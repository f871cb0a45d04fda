-- What a list of numbers keeps.
use Rattle.std.specs.Prelude.{ℕ, List}

-- the numbers, and for how many more there is room
pub record Numbers : Type 0 where
  pub numbers : List ℕ
  pub room : ℕ
