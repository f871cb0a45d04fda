-- What the making and the opening of a server with a journal leave of a disk.
use Rattle.std.specs.Prelude.{◌≡◌, ℕ, Option, Some, Result, Ok, Err, List, ◌⊎◌, ⊤}
use Rattle.sess_records.specs.declared.fault.JournalFault.{JournalFault}
use Rattle.sess_records.specs.declared.fault.JournalFault.TheVariants as faults
use Rattle.sess_records.specs.declared.records.Record.{Record}
use Rattle.sess_records.specs.Format.{Spells}
use Rattle.sess_records.specs.Standing.{SpellsSome}
use Rattle.sess_journal.specs.Keeping.{Seen, disk_in, ending}
use Rattle.sess_journal.specs.Replay.{Basis, Reached, Replays, at_first}

-- the disk of the server, or the one that came back
abbrev pub disk_left : {K S D : Type 0} → Result (Seen K S D) (K × JournalFault) → Option K
disk_left (Ok desk) = disk_in desk.book
disk_left (Err back) = Some back.0

-- the file spells these records, which are lawful and come to this
pub record IsLawfulFile {D : Type 0} (by_seed : List ℕ → Basis D) (seed : List ℕ) (entries : List Record) (reached : Reached) (file : List ℕ) : Type 0 where
  pub spells : Spells seed entries file
  pub replays : Replays (by_seed seed) entries at_first reached

-- A file of lawful records leaves these, and the end of a run that was cut off, where that is written at this moment.
pub record Resumes {D : Type 0} (by_seed : List ℕ → Basis D) (now : ℕ) (file left : List ℕ) : Type 0 where
  pub seed : List ℕ
  pub entries : List Record
  pub reached : Reached
  pub lawful : IsLawfulFile by_seed seed entries reached file
  pub some_of : SpellsSome seed entries (ending now reached) left

-- what an opening at this moment may leave of a file: it as it was, or its records and the end of a run that was cut off
abbrev pub MayBecome : {D : Type 0} → (List ℕ → Basis D) → ℕ → List ℕ → List ℕ → Type 0
MayBecome by_seed now file left = (left ≡ file) ⊎ Resumes by_seed now file left

-- two files spell one list of records
pub record HaveSameRecords (one other : List ℕ) : Type 0 where
  pub seed : List ℕ
  pub entries : List Record
  pub spells : Spells seed entries one
  pub spells_too : Spells seed entries other

-- What a read gives after an opening that was refused. A file that is no journal is as it was. Where memory ran out it is as it
-- was, or has the same records. After a failed call of the disk it is one of the contents that a crash may leave then.
abbrev pub IsKeptAfter : JournalFault → List ℕ → List ℕ → Type 0
IsKeptAfter faults.Disk before after = ⊤
IsKeptAfter (faults.NotJournal at) before after = after ≡ before
IsKeptAfter faults.Memory before after = (after ≡ before) ⊎ HaveSameRecords before after
