-- The jobs of all sessions: words of private contracts, which are no promise of this crate.
use Rattle.std.specs.Prelude.{◌≡◌, ℕ, ◌^◌, ◌<◌, ◌≤◌, Bool, true, not, List, length, slice_index_or}
use Rattle.waits.specs.declared.stamped.Stamped.{Stamped}
use Rattle.waits.specs.declared.job.Job.{Job}
use Rattle.waits.specs.declared.totals.Totals.{Totals}
use Rattle.waits.specs.declared.owners.Place.{Place}
use Rattle.waits.specs.Jobs.{is_of}
use Rattle.waits.specs.Stamps.{weigh, tally, count_before, IsWith}
use Rattle.waits.specs.Totals.{AreTotals}
use Rattle.waits.specs.Parts.{Part, is_part_of, all_of}

-- the jobs with their stamps, and for how many more there is room
pub record Kept : Type 0 where
  pub jobs : List Stamped
  pub room : ℕ

-- how many jobs of a part are another session's
abbrev pub strangers : Part → ℕ
strangers part = tally (λ x. not (is_of part.key part.session x.one)) part.jobs

-- each part has jobs of its session alone, and no session has two parts
pub record AreParts (parts : List Part) : Type 0 where
  pub own : weigh strangers parts ≡ 0
  pub apart : (key session : ℕ) → tally (is_part_of key session) parts ≤ 1

-- and what is counted of all jobs is right
pub record AreKept (parts : List Part) (totals : Totals) : Type 0 where
  pub apart : AreParts parts
  pub counted : AreTotals (all_of parts) totals
  pub few : length (all_of parts) < 2 ^ 64

-- of the jobs that pass a test, this one has the least stamp; it stands among these others
pub record IsFirstOf (test : Stamped → Bool) (x : Stamped) (others all : List Stamped) : Type 0 where
  pub among : IsWith x others all
  pub passes : test x ≡ true
  pub none : count_before test x.stamp all ≡ 0

-- a job stands at a place
pub record IsThere (parts : List Part) (place : Place) : Type 0 where
  pub within : place.owner < length parts
  pub at : (d : Part) → place.at < length (slice_index_or parts place.owner d).jobs

-- what stands at a place
abbrev pub job_at : List Part → Place → Part → Stamped → Stamped
job_at parts place d x = slice_index_or (slice_index_or parts place.owner d).jobs place.at x

-- of the jobs that pass a test, that of a place has the least stamp
pub record IsFirstAt (test : Stamped → Bool) (parts : List Part) (place : Place) : Type 0 where
  pub there : IsThere parts place
  pub passes : (d : Part) (x : Stamped) → test (job_at parts place d x) ≡ true
  pub none : (d : Part) (x : Stamped) → count_before test (job_at parts place d x).stamp (all_of parts) ≡ 0

-- the job of a place is taken out
pub record IsOut (place : Place) (old new : List Part) (result : Job) : Type 0 where
  pub stamped : Stamped
  pub job : result ≡ stamped.one.job
  pub here : (d : Part) (x : Stamped) → job_at old place d x ≡ stamped
  pub others : IsWith stamped (all_of new) (all_of old)
