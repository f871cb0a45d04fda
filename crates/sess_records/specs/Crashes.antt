-- What the moments of a call may leave.
use Rattle.std.specs.Prelude.{◌≡◌, ℕ, ◌≤◌, List, ◌⊎◌, length}
use Rattle.disks.specs.Crash.{MayLeave}
use Rattle.disks.specs.Told.{DiskTold, MayHaveLeft, now}

-- Whatever a crash since some moment may have left after a call, it may have left before it, or it has P.
pub record Leaves (before after : DiskTold) (P : List ℕ → Type 0) : Type 0 where
  pub first : after.first ≡ before.first
  pub longer : length before.acts ≤ length after.acts
  pub adds : (since : ℕ) (left : List ℕ) → MayHaveLeft since after left → MayHaveLeft since before left ⊎ P left
  -- with no crash too, a read gives one of the contents that a crash now may leave
  pub possible : MayLeave (now after) after.contents

-- A crash at any moment of a call, from the one before it to the one after it, leaves what has P, and so does the call by itself.
pub record LeavesOnly (before after : DiskTold) (P : List ℕ → Type 0) : Type 0 where
  pub each : (left : List ℕ) → MayHaveLeft (length before.acts) after left → P left
  -- what a read gives behind the call, whether it failed or not
  pub read : P after.contents
  -- for a crash since an earlier moment
  pub earlier : Leaves before after P
