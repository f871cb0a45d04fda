-- What calls come to.
use Rattle.std.specs.Prelude.{◌≡◌, ℕ, List, Result, Ok, Err, ⊤}
use Rattle.std.specs.Borrow.{Bor}
use Rattle.mt_edge.specs.Faults.{Rose}
use Rattle.sess_records.specs.declared.records.Event.{Event}
use Rattle.sess_records.specs.declared.records.Event.TheVariants.{Packet, Tick, Attach, Begin, Ran, Interrupted}
use Rattle.sess_records.specs.declared.fault.JournalFault.{JournalFault}
use Rattle.sess_records.specs.declared.fault.JournalFault.TheVariants as fault
use Rattle.sess_records.specs.Seen.{File, Reading}

-- an event whose bytes stand elsewhere
abbrev pub event_in : Event (Bor (List ℕ)) → Event (List ℕ)
event_in (Packet packet) = Packet packet.now
event_in Tick = Tick
event_in (Attach key session) = Attach key session
event_in (Begin job) = Begin job
event_in (Ran reply) = Ran reply.now
event_in Interrupted = Interrupted

-- P says something of the place, where the file is no journal
abbrev pub IfNotJournal : JournalFault → (ℕ → Type 0) → Type 0
IfNotJournal fault.Disk P = ⊤
IfNotJournal (fault.NotJournal at) P = P at
IfNotJournal fault.Memory P = ⊤

-- `Disk` comes where the disk's count rose, and the others where it didn't
abbrev pub HasCause : JournalFault → ℕ → ℕ → Type 0
HasCause fault.Disk before after = Rose before after
HasCause (fault.NotJournal at) before after = after ≡ before
HasCause fault.Memory before after = after ≡ before

-- the disk of a journal, or the one that came back
abbrev pub disk_after : {K : Type 0} → Result (File K) K → K
disk_after (Ok journal) = journal.disk
disk_after (Err back) = back

-- the disk of an opening, or the one that came back
abbrev pub disk_of : {K : Type 0} → Result (Reading K) (K × JournalFault) → K
disk_of (Ok opening) = opening.disk
disk_of (Err back) = back.0

-- an opening stays at its place
pub record Stays {K : Type 0} (before after : Reading K) : Type 0 where
  pub at : after.at ≡ before.at
  pub gate : after.gate ≡ before.gate
  pub len : after.len ≡ before.len
  pub seed : after.seed ≡ before.seed
