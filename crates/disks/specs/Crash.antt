-- The disk model: what a crash may leave of a file. It is a premise, and no call proves it of a real disk.
use Rattle.std.specs.Prelude.{◌≡◌, ℕ, ◌+◌, ◌≤◌, List, [], ◌∷◌, ◌++◌, ◌⊎◌, take, drop, length, min, max, fold}
use Rattle.std.specs.List.{All}
use Rattle.octets.specs.Bytes.{IsBytes}
use Rattle.disks.specs.declared.disk_act.DiskAct.{DiskAct}
use Rattle.disks.specs.declared.disk_act.DiskAct.TheVariants.{Write, Cut, Sync}

-- so many bytes, from a place on
pub record Range : Type 0 where
  pub at : ℕ
  pub count : ℕ

-- what a crash at one moment hangs on
pub record Standing : Type 0 where
  -- what a read gave at the last sync
  pub synced : List ℕ
  -- the least length of the file since then: what is past it may be missing from any place on
  pub least : ℕ
  -- its greatest length since then
  pub most : ℕ
  -- what was written since then
  pub written : List Range

-- the range has none of so many bytes from a place on
abbrev pub IsApart : ℕ → ℕ → Range → Type 0
IsApart from count range = (from + count ≤ range.at) ⊎ (range.at + range.count ≤ from)

-- a crash at such a moment may leave this: any bytes, but those that no write reached and that no cut and no old end lies before are as
-- they were at the last sync
pub record MayLeave (standing : Standing) (left : List ℕ) : Type 0 where
  pub bytes : IsBytes left
  pub not_shorter : standing.least ≤ length left
  pub not_longer : length left ≤ standing.most
  pub stays : (from count : ℕ) → from + count ≤ standing.least → All (IsApart from count) standing.written
      → take count (drop from left) ≡ take count (drop from standing.synced)

-- right after a sync of a file with these bytes
abbrev pub synced_at : List ℕ → Standing
synced_at bytes = record { synced = bytes; least = length bytes; most = length bytes; written = [] }

-- the moment after an act that a file was asked for, whether it was done, failed, or a crash cut it off
abbrev pub after_act : Standing → DiskAct → Standing
after_act s (Write at count) = record { synced = s.synced; least = s.least; most = max s.most (at + count); written = s.written ++ record { at = at; count = count } ∷ [] }
after_act s (Cut len) = record { synced = s.synced; least = min s.least len; most = s.most; written = s.written }
after_act s (Sync contents) = synced_at contents

-- the moment after these acts
abbrev pub after_acts : Standing → List DiskAct → Standing
after_acts s acts = fold after_act s acts

-- what a read gave at the last sync, after an act, by what it gave at the one before
abbrev pub synced_after : List ℕ → DiskAct → List ℕ
synced_after before (Write at count) = before
synced_after before (Cut len) = before
synced_after before (Sync contents) = contents

-- what a read gives after a write of these bytes at a place that is no further than the end
abbrev pub overwritten : ℕ → List ℕ → List ℕ → List ℕ
overwritten at bytes before = take at before ++ bytes ++ drop (at + length bytes) before
