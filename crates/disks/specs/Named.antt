-- What files by name tell.
use Rattle.std.specs.Prelude.{◌≡◌, ◌≢◌, ℕ, ◌<◌, List, [], ◌∷◌, ◌++◌, ◌⊎◌, Option, None, Some, length, slice_index_or, slice_set}
use Rattle.mt_edge.specs.Faults.{one_more}
use Rattle.disks.specs.declared.disks.DiskOpen.{DiskOpen}
use Rattle.disks.specs.declared.disks.DiskOpen.TheVariants.{Disk, Failed}

-- a file: its name, and what a read gives, which isn't told while the file is open
pub record Named : Type 0 where
  pub name : List ℕ
  pub contents : Option (List ℕ)

-- the files, and the names that were asked for, in order
pub record NamesTold : Type 0 where
  pub files : List Named
  pub asked : List (List ℕ)

-- P says something of the open file, where there is one
abbrev pub IfDisk : {K : Type 0} → DiskOpen K → (K → Type 0) → Type 0
IfDisk (Disk disk) P = P disk
IfDisk Failed P = Unit {0}

-- the file at a place, from 0, has this name and these contents, and is open then
pub record Takes (name : List ℕ) (place : ℕ) (contents : List ℕ) (before after : List Named) : Type 0 where
  pub inside : place < length before
  pub file : (other : Named) → slice_index_or before place other ≡ record { name = name; contents = Some contents }
  pub files : after ≡ slice_set before place (record { name = name; contents = None })

-- the file at a place, from 0, is opened under its name, with these contents
pub record Opens (name : List ℕ) (place : ℕ) (contents : List ℕ) (before after : NamesTold) : Type 0 where
  pub files : Takes name place contents before.files after.files
  pub asked : after.asked ≡ before.asked ++ name ∷ []

-- no file was opened under this name
pub record OpensNone (name : List ℕ) (before after : NamesTold) : Type 0 where
  pub files : after.files ≡ before.files
  pub asked : (after.asked ≡ before.asked ++ name ∷ []) ⊎ (after.asked ≡ before.asked)

-- P of what an open file is, or Q where there is none
abbrev pub ByDisk : {K : Type 0} → DiskOpen K → (K → Type 0) → Type 0 → Type 0
ByDisk (Disk disk) P Q = P disk
ByDisk Failed P Q = Q

-- the file at a place, whatever its name, has these contents now, and the others stay
abbrev pub Puts : ℕ → List ℕ → List Named → List Named → Type 0
Puts place contents before after = (other : Named) → after ≡ slice_set before place (record { name = (slice_index_or before place other).name; contents = Some contents })

-- the file at a place comes back with these contents
pub record Closes (place : ℕ) (contents : List ℕ) (before after : NamesTold) : Type 0 where
  pub files : Puts place contents before.files after.files
  pub asked : after.asked ≡ before.asked

-- a failed attempt is one more fault, and no other attempt is a fault
abbrev pub Counts : {K : Type 0} → DiskOpen K → ℕ → ℕ → Type 0
Counts (Disk disk) before after = after ≡ before
Counts Failed before after = after ≡ one_more before

-- a file that comes back with faults is one more fault, and no other is a fault
pub record CountsDone (own before after : ℕ) : Type 0 where
  pub clean : own ≡ 0 → after ≡ before
  pub faulty : own ≢ 0 → after ≡ one_more before
