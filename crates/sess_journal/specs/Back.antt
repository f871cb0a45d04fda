-- What comes back after a crash.
use Rattle.std.specs.Prelude.{◌≡◌, ℕ, Option, Some, List, ◌++◌, ◌⊎◌, length, IsSomeAnd}
use Rattle.disks.specs.Crash.{MayLeave}
use Rattle.disks.specs.Told.{DiskTold, MayHaveLeft, now as moment_now}
use Rattle.sess_records.specs.declared.records.Record.{Record}
use Rattle.sess_records.specs.Seen.{File}
use Rattle.sess_records.specs.Standing.{SpellsSome}
use Rattle.sess_journal.specs.Keeping.{Book, Resumed, Seen, disk_in, ending}
use Rattle.sess_journal.specs.Replay.{Bases, Reached, Replays, at_first}

-- A disk that tells what it holds may hold these bytes: by a crash at any moment of a call, from the one before it to the one
-- after it, or by the call alone.
pub record MayHold {K : Type 0} (told : K → Option DiskTold) (before after : Book K) (left : List ℕ) : Type 0 where
  pub one : K
  pub one_is : disk_in before ≡ Some one
  pub other : K
  pub other_is : disk_in after ≡ Some other
  pub was : DiskTold
  pub was_is : told one ≡ Some was
  pub then : DiskTold
  pub then_is : told other ≡ Some then
  pub left_is : MayHaveLeft (length was.acts) then left ⊎ (left ≡ then.contents)

-- a disk that tells holds these bytes
abbrev pub HoldsBytes : {K : Type 0} → (K → Option DiskTold) → K → List ℕ → Type 0
HoldsBytes told disk bytes = IsSomeAnd (told disk) (λ file. file.contents ≡ bytes)

-- There is the server of some records and of the first ones of others, with a run that was cut off answered as such.
pub record Returns {K S D : Type 0} (bases : Bases S D) (told : K → Option DiskTold) (seal : S) (seed : List ℕ) (entries more : List Record) (now : ℕ) (desk : Seen K S D) : Type 0 where
  pub front : List Record
  pub back : List Record
  pub split : more ≡ front ++ back
  pub reached : Reached
  pub replays : Replays (bases seal seed) (entries ++ front) at_first reached
  pub resumed : Resumed bases told seed now reached ((entries ++ front) ++ ending now reached) desk

-- so it is after a call that adds some records behind others
pub record ComesBack {K S D : Type 0} (bases : Bases S D) (told : K → Option DiskTold) (entries more : List Record) (now : ℕ) (before desk : Seen K S D) : Type 0 where
  pub file : File K
  pub opened : before.book.journal ≡ Some file
  pub returns : Returns bases told before.server.seal file.seed entries more now desk

-- ---- a crash in an opening

-- a read of the file gives some records and the first ones of others, and so does whatever a crash now may leave
pub record HoldsSome (seed : List ℕ) (entries more : List Record) (file : DiskTold) : Type 0 where
  pub read : SpellsSome seed entries more file.contents
  pub each : (left : List ℕ) → MayLeave (moment_now file) left → SpellsSome seed entries more left

-- a crash at any moment of a call may leave this, or the call alone
abbrev pub MayLeaveIn : DiskTold → DiskTold → List ℕ → Type 0
MayLeaveIn before after left = MayHaveLeft (length before.acts) after left ⊎ (left ≡ after.contents)

-- After an opening at an earlier moment there is the server of some records and of the first ones of others, as above, and of
-- the end that the opening gave to a run that was cut off, or not.
pub record ReturnsAfter {K S D : Type 0} (bases : Bases S D) (told : K → Option DiskTold) (seal : S) (seed : List ℕ) (entries more : List Record) (earlier now : ℕ) (desk : Seen K S D) : Type 0 where
  pub front : List Record
  pub back : List Record
  pub split : more ≡ front ++ back
  pub reached : Reached
  pub replays : Replays (bases seal seed) (entries ++ front) at_first reached
  pub returns : Returns bases told seal seed (entries ++ front) (ending earlier reached) now desk
