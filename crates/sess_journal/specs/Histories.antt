-- What may happen to the disk of a server that keeps a journal: by calls of such servers, by openings, and by crashes.
use Rattle.std.specs.Prelude.{◌≡◌, ℕ, Option, Some, List, [], ◌∷◌, IfSome, IsSomeAnd}
use Rattle.disks.specs.Told.{DiskTold}
use Rattle.sess_records.specs.declared.records.Record.{Record}
use Rattle.sess_records.specs.Crashes.{Leaves}
use Rattle.sess_records.specs.Standing.{IsSure}
use Rattle.sess_journal.specs.Back.{MayLeaveIn}
use Rattle.sess_journal.specs.Keeping.{Adds, Seen, disk_in}
use Rattle.sess_journal.specs.Opening.{MayBecome}
use Rattle.sess_journal.specs.Replay.{Bases}

-- a call of a server under this ring
pub record Calls {K S D : Type 0} (bases : Bases S D) (told : K → Option DiskTold) (seal : S) (one other : K) : Type 0 where
  pub entries : List Record
  pub more : List Record
  pub before : Seen K S D
  pub after : Seen K S D
  pub ring : (seed : List ℕ) → bases before.server.seal seed ≡ bases seal seed
  pub adds : Adds bases told entries more before after
  pub one_is : disk_in before.book ≡ Some one
  pub other_is : disk_in after.book ≡ Some other

-- an opening under this ring, whatever it answers
pub record IsOpenedAs {K S D : Type 0} (bases : Bases S D) (told : K → Option DiskTold) (seal : S) (one other : K) : Type 0 where
  pub now : ℕ
  pub leaves : IfSome (told one) (λ before. IsSomeAnd (told other) (λ after. Leaves before after (MayBecome (bases seal) now before.contents)))

-- A crash at any moment of a call that comes from the first disk to the second, and the file that it leaves, opened anew. It is
-- sure then.
pub record CrashesIn {K : Type 0} (told : K → Option DiskTold) (one between other : K) : Type 0 where
  pub left : List ℕ
  pub may : IfSome (told one) (λ before. IsSomeAnd (told between) (λ after. MayLeaveIn before after left))
  pub found : IsSomeAnd (told other) (IsSure left)

-- one of the things that may happen, from one disk to another
pub data Happens {K S D : Type 0} (bases : Bases S D) (told : K → Option DiskTold) (seal : S) (one other : K) : Type 0 where
  Works : (call : Calls bases told seal one other) → Happens bases told seal one other
  Opens : (opening : IsOpenedAs bases told seal one other) → Happens bases told seal one other
  -- a crash between calls, and in one
  Stops : (crash : CrashesIn told one one other) → Happens bases told seal one other
  StopsWork : (between : K) (call : Calls bases told seal one between) (crash : CrashesIn told one between other) → Happens bases told seal one other
  StopsOpening : (between : K) (opening : IsOpenedAs bases told seal one between) (crash : CrashesIn told one between other) → Happens bases told seal one other

-- one thing after the other, through these disks
abbrev pub Comes : {K S D : Type 0} → Bases S D → (K → Option DiskTold) → S → K → List K → K → Type 0
Comes bases told seal first [] last = last ≡ first
Comes bases told seal first (next ∷ disks) last = Happens bases told seal first next × Comes bases told seal next disks last
