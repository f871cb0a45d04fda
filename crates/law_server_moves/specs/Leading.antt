-- What a server's moves lead to.
use Rattle.std.specs.Prelude.{List}
use Rattle.std.specs.List.{All}
use Rattle.law_moves.specs.World.{World}
use Rattle.law_moves.specs.Move.{Move}
use Rattle.law_moves.specs.Reached.{AreLawful, after_all}
use Rattle.law_client.specs.Leading.{IsOfServers}

-- some list of moves of server sessions, lawful from this world on, leads to such a one
pub record Leads (w : World) (P : World → Type 0) : Type 0 where
  pub moves : List Move
  pub lawful : AreLawful w moves
  pub own : All IsOfServers moves
  pub gives : P (after_all w moves)
