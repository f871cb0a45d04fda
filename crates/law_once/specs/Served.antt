-- What is kept of a world of what its service replied.
use Rattle.std.specs.Prelude.{◌≡◌, ◌<◌, ℕ, []}
use Rattle.regs_service.specs.Served.{Served, requests_of, state_after}
use Rattle.law_server.specs.Order.{AreOrdered}
use Rattle.world_rules.specs.Setting.{Setting}
use Rattle.world_rules.specs.World.{World}
use Rattle.world_rules.specs.Once.{ran_in}

-- The server is in order; what ran in each start has the replies of the service from its fresh state, the service's state is the
-- one behind what ran in the present start, and nothing ran in a later one.
pub record IsServed {S V : Type 0} (setting : Setting S V) (world : World S V) : Type 0 where
  pub ordered : AreOrdered world.server.sessions world.server.jobs
  pub past : (start : ℕ) → Served setting.serve setting.fresh (ran_in start world.entries)
  pub now : state_after setting.serve setting.fresh (requests_of (ran_in world.start world.entries)) ≡ world.service
  pub later : (start : ℕ) → world.start < start → ran_in start world.entries ≡ []
