-- What a journal and an opening hold of their disks, where these tell.
use Rattle.std.specs.Prelude.{◌≡◌, ◌≢◌, ◌≤◌, ℕ, List, [], ◌∷◌, ◌++◌, ◌⊎◌, Option, length, IfSome, IsSomeAnd}
use Rattle.disks.specs.Crash.{synced_at}
use Rattle.disks.specs.Told.{DiskTold, now}
use Rattle.sess_records.specs.declared.records.Record.{Record}
use Rattle.sess_records.specs.Format.{Reached, Spells, open_gate}
use Rattle.sess_records.specs.Crashes.{LeavesOnly}
use Rattle.sess_records.specs.Seen.{File, Reading}

-- a crash now leaves these bytes, and a read gives them
pub record IsSure (bytes : List ℕ) (told : DiskTold) : Type 0 where
  pub contents : told.contents ≡ bytes
  pub sure : now told ≡ synced_at bytes

-- ---- a journal

-- the file is a header of this seed, these records and a closed gate, and a crash leaves it so
pub record Settled (seed : List ℕ) (entries : List Record) (len : ℕ) (told : DiskTold) : Type 0 where
  pub gate : ℕ
  pub reached : Reached seed entries gate len told.contents
  pub closed : gate ≢ open_gate
  pub whole : len ≡ length told.contents
  pub sure : now told ≡ synced_at told.contents

-- the journal's file has these records, where the disk tells
abbrev pub Holds : {K : Type 0} → (K → Option DiskTold) → List Record → File K → Type 0
Holds told entries journal = IfSome (told journal.disk) (λ file. Settled journal.seed entries journal.len file)

-- what each journal keeps: its file has some records, so that no call of its disk has failed
pub record IsJournal (seed : List ℕ) (len : ℕ) (told : Option DiskTold) : Type 0 where
  pub headed : 41 ≤ len
  pub sound : IfSome told (λ file. (entries : List Record) × Settled seed entries len file)

-- ---- an opening

-- what is read of a file is a header and these records, up to the next gate, and a crash leaves it as it is
pub record Behind (seed : List ℕ) (entries : List Record) (gate at len : ℕ) (told : DiskTold) : Type 0 where
  pub reached : Reached seed entries gate at told.contents
  pub whole : len ≡ length told.contents
  pub sure : now told ≡ synced_at told.contents

-- an opening has taken these records from its file, where the disk tells
abbrev pub HasTaken : {K : Type 0} → (K → Option DiskTold) → List Record → Reading K → Type 0
HasTaken told entries opening = IfSome (told opening.disk) (λ file. Behind opening.seed entries opening.gate opening.at opening.len file)

-- the next gate is open, so that a record has to follow
abbrev pub HasNext : {K : Type 0} → Reading K → Type 0
HasNext opening = opening.gate ≡ open_gate

-- what each opening keeps: it has taken some records of its file
pub record IsOpening (seed : List ℕ) (gate at len : ℕ) (told : Option DiskTold) : Type 0 where
  pub headed : 41 ≤ at
  pub inside : at ≤ len
  pub taken : IfSome told (λ file. (entries : List Record) × Behind seed entries gate at len file)

-- ---- what a crash leaves

-- the list before a call, or that list and one record
abbrev pub SpellsOneOf : List ℕ → List Record → Record → List ℕ → Type 0
SpellsOneOf seed entries entry left = Spells seed entries left ⊎ Spells seed (entries ++ entry ∷ []) left

-- the list before some calls, or that list and the first ones of these records
pub record SpellsSome (seed : List ℕ) (entries more : List Record) (left : List ℕ) : Type 0 where
  pub front : List Record
  pub back : List Record
  pub split : more ≡ front ++ back
  pub spells : Spells seed (entries ++ front) left

-- At each moment of a call a crash leaves the journal's list, or that list and one record. So does the call itself.
abbrev pub LeavesOneOf : {K : Type 0} → (K → Option DiskTold) → List Record → Record → File K → K → Type 0
LeavesOneOf told entries entry journal after =
    IfSome (told journal.disk) (λ before. IsSomeAnd (told after) (λ behind. LeavesOnly before behind (SpellsOneOf journal.seed entries entry)))

-- At each moment of a call a crash leaves what an opening has taken. So does the call itself.
abbrev pub LeavesTaken : {K : Type 0} → (K → Option DiskTold) → List Record → Reading K → K → Type 0
LeavesTaken told entries opening after =
    IfSome (told opening.disk) (λ before. IsSomeAnd (told after) (λ behind. LeavesOnly before behind (Spells opening.seed entries)))
