-- What `load` owes.
use Rattle.std.specs.Prelude.{◌≡◌, ℕ, All, List}
use Rattle.sched_text.specs.declared.schedule.Placed.{Placed}
use Rattle.world_rules.specs.Load.{load}
use Rattle.world_rules.specs.Premises.{IsOfBytes}
use Rattle.world_rules.specs.Report.{summary}
use Rattle.world_rules.specs.Run.{events_of}
use Rattle.world_rules.specs.World.{World}
use Rattle.cmd_sim.specs.Sim.{ExecutesOnce}
use Rattle.cmd_sim.specs.Worlds.{Registers, sim_setting, sim_world}

-- the world after the large schedule of so many calls
abbrev pub load_world : ℕ → World ℕ Registers
load_world calls = load sim_setting 0 calls

-- the line that sums it up
abbrev pub summary_of : ℕ → List ℕ
summary_of calls = summary sim_setting (load_world calls)

-- these are the events of that schedule: they make its world, and the bodies of their calls are bytes
pub record AreOfLoad (calls : ℕ) (events : List Placed) : Type 0 where
  pub world : load_world calls ≡ sim_world events
  pub bytes : All IsOfBytes (events_of events)

-- of that world it holds that each call executes once, with what stands beside it
abbrev pub LoadExecutesOnce : ℕ → Type 0
LoadExecutesOnce calls = (events : List Placed) × AreOfLoad calls events × ExecutesOnce events
