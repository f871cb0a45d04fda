-- What contracts see of the jobs that a server keeps.
use Rattle.std.specs.Prelude.{ℕ}
use Rattle.waits.specs.Jobs.{Queue}

-- the unfinished jobs in order of acceptance, and for how many more room is reserved
pub record Held : Type 0 where
  pub jobs : Queue
  pub room : ℕ
