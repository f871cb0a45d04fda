-- What a world made so far.
use Rattle.std.specs.Prelude.{ℕ, List}
use Rattle.world_rules.specs.World.{Entered}
use Rattle.sim_server.specs.Made.{Made}

-- The number of the server's present start, every packet and every entry in order, and for how many more events there is room.
pub record Kept : Type 0 where
  pub start : ℕ
  pub bag : List Made
  pub entries : List Entered
  pub room : ℕ
