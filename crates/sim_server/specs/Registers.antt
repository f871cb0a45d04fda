-- The entries of a world.
use Rattle.std.specs.Prelude.{ℕ, List, map}
use Rattle.server_rules.specs.Event.{Entry}
use Rattle.world_rules.specs.World.{Entered}
use Rattle.sim_server.specs.declared.register.Recorded.{Recorded}

-- the entries of all starts in order, and for how many more events there is room
pub record Enters : Type 0 where
  pub entries : List Entered
  pub room : ℕ

-- an entry that was made in this start
abbrev pub entered : ℕ → Entry → Entered
entered start entry = record { start = start; entry = entry }

-- what one event recorded
abbrev pub entered_in : Recorded → List Entered
entered_in recorded = map (entered recorded.start) recorded.entries.entries
