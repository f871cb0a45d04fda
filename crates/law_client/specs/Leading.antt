-- What moves of one end lead to.
use Rattle.std.specs.Prelude.{ℕ, List}
use Rattle.std.specs.List.{All}
use Rattle.law_moves.specs.World.{World}
use Rattle.law_moves.specs.Move.{Move}
use Rattle.law_moves.specs.Extends.{IsOfClient, IsOfServer}
use Rattle.law_moves.specs.Reached.{AreLawful, after_all}

-- the move is one of some server session
abbrev pub IsOfServers : Move → Type 0
IsOfServers move = (unique : ℕ) × IsOfServer unique move

-- some list of moves of this client, lawful from this world on, leads to such a one
pub record Leads (number : ℕ) (w : World) (P : World → Type 0) : Type 0 where
  pub moves : List Move
  pub lawful : AreLawful w moves
  pub own : All (IsOfClient number) moves
  pub gives : P (after_all w moves)
