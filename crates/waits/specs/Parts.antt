-- The jobs of sessions, each with its stamp: words of private contracts, which are no promise of this crate.
use Rattle.std.specs.Prelude.{◌≡◌, ℕ, ◌<◌, Bool, true, ◌==◌, ◌&&◌, nat_le, List, length, take, drop, slice_index_or}
use Rattle.std.specs.List.{flat_map, remove}
use Rattle.waits.specs.declared.stamped.Stamped.{Stamped}
use Rattle.waits.specs.declared.wanted.First.{First}
use Rattle.waits.specs.Stamps.{tally, count_before}

-- whose they are, and the jobs in order of their stamps
pub record Part : Type 0 where
  pub key : ℕ
  pub session : ℕ
  pub jobs : List Stamped

-- they are of this session of this key
abbrev pub is_part_of : ℕ → ℕ → Part → Bool
is_part_of key session part = (part.key == key) && (part.session == session)

-- all jobs, those of one session after those of another
abbrev pub all_of : List Part → List Stamped
all_of parts = flat_map (λ part. part.jobs) parts

-- a stamp is above those of these jobs
abbrev pub is_later : Stamped → List Stamped → Type 0
is_later x xs = tally (λ y. nat_le x.stamp y.stamp) xs ≡ 0

-- a job is the first that passes a test, and has a stamp below the limit
pub record IsFirst (test : Stamped → Bool) (limit : ℕ) (xs : List Stamped) (found : First) : Type 0 where
  pub within : found.at < length xs
  pub passes : (d : Stamped) → test (slice_index_or xs found.at d) ≡ true
  pub stamp : (d : Stamped) → (slice_index_or xs found.at d).stamp ≡ found.stamp
  pub below : found.stamp < limit
  pub none : count_before test found.stamp xs ≡ 0

-- the job of a place is taken out, in its node
pub record IsTaken (at : ℕ) (old new : Part) (node : List Stamped) : Type 0 where
  pub taken : node ≡ take 1 (drop at old.jobs)
  pub left : new ≡ record old { jobs = remove old.jobs at }
