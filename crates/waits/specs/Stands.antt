-- The jobs of a server as they are kept: words of private contracts, which are no promise of this crate.
use Rattle.std.specs.Prelude.{◌+◌, ◌^◌, ◌<◌, ◌≤◌}
use Rattle.waits.specs.declared.jobs.Jobs.TheInside.{Inside}
use Rattle.waits.specs.Stamps.{AreStamped}

-- the stamps are apart and below the next one, and there are stamps and room for as many jobs as was promised
pub record Stands (jobs : Inside) : Type 0 where
  pub stamped : AreStamped jobs.stamp jobs.owners.jobs
  pub stamps : jobs.stamp + jobs.room < 2 ^ 64
  pub room : jobs.room ≤ jobs.owners.room
