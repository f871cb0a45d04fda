-- What contracts see of a server that keeps a journal, and what it stands for.
use Rattle.std.specs.Prelude.{◌≡◌, ℕ, ◌≤◌, ◌<◌, ◌+◌, ◌^◌, ◌↔◌, max, length, ⊤, is_some, Option, Some, None, Result, Err, List, [], ◌∷◌, ◌++◌, ◌⊎◌, IfErr, IfOk, IfSome, IsSomeAnd}
use Rattle.disks.specs.Told.{DiskTold, MayHaveLeft}
use Rattle.mt_edge.specs.Faults.{Rose}
use Rattle.sess_records.specs.declared.records.Event.{Event}
use Rattle.sess_records.specs.declared.records.Event.TheVariants.{Interrupted}
use Rattle.sess_records.specs.declared.records.Record.{Record}
use Rattle.sess_records.specs.Format.{Spells, size_of}
use Rattle.sess_records.specs.Seen.{File}
use Rattle.sess_records.specs.Standing.{Holds, SpellsSome}
use Rattle.regs_service.specs.Served.{Step}
use Rattle.server_core.specs.declared.desk.DeskFault.{DeskFault}
use Rattle.server_core.specs.declared.desk.DeskFault.TheVariants as faults
use Rattle.server_core.specs.declared.desk.Heard.{Heard}
use Rattle.server_core.specs.declared.desk.Heard.TheVariants.{Judged, NotOpened}
use Rattle.server_core.specs.declared.effects.Effects.{Effects}
use Rattle.server_core.specs.Server.{Kept, StandsFor as IsServer}
use Rattle.server_rules.specs.Server.{Server}
use Rattle.sess_journal.specs.Replay.{Bases, Reached, Replays, at_first}
use Rattle.waits.specs.declared.job.Job.{Job}
use Rattle.waits.specs.Jobs.{Queue, ready_job}

-- the journal, until a call of its disk fails, and the disk from then on
pub record Book (K : Type 0) : Type 0 where
  pub journal : Option (File K)
  pub lost : Option K

-- its disk
abbrev pub disk_by : {K : Type 0} → Option (File K) → Option K → Option K
disk_by None lost = lost
disk_by (Some file) lost = Some file.disk

abbrev pub disk_in : {K : Type 0} → Book K → Option K
disk_in book = disk_by book.journal book.lost

-- how many calls of its disk have failed, by the disk's own count
abbrev pub count_of : {K : Type 0} → (K → ℕ) → Option K → ℕ
count_of count None = 0
count_of count (Some disk) = count disk

-- the place of its disk among those of the files that opened it
abbrev pub place_by : {K : Type 0} → (K → ℕ) → Option K → ℕ
place_by place None = 0
place_by place (Some disk) = place disk

-- a record was added to a journal
pub record Added {K : Type 0} (told : K → Option DiskTold) (before : File K) (entry : Record) (after : File K) : Type 0 where
  pub seed : after.seed ≡ before.seed
  pub len : after.len ≡ before.len + size_of entry.event
  pub holds : (entries : List Record) → Holds told entries before → Holds told (entries ++ entry ∷ []) after

-- a server with its journal: the server, the greatest moment that it was given, its draw, and the journal
pub record Seen (K S D : Type 0) : Type 0 where
  pub server : Kept S
  pub latest : ℕ
  pub draw : D
  pub book : Book K

-- The journal is open and has these records; the server is the one that they lead to, but for a later moment, and so is the
-- draw.
pub record HasRecorded {K S D : Type 0} (bases : Bases S D) (told : K → Option DiskTold) (seal : S) (entries : List Record) (book : Book K) (latest : ℕ) (draw : D) (server : Server) : Type 0 where
  pub file : File K
  pub opened : book.journal ≡ Some file
  pub holds : Holds told entries file
  pub reached : Reached
  pub replays : Replays (bases seal file.seed) entries at_first reached
  pub same : server ≡ record reached.server { now = server.now }
  pub later : reached.server.now ≤ server.now
  pub latest_is : latest ≡ server.now
  pub place : reached.place < 2 ^ 64
  pub drawn : draw ≡ (bases seal file.seed).at reached.place

-- With these records in its journal it stands for this server.
pub record KeepsFor {K S D : Type 0} (bases : Bases S D) (told : K → Option DiskTold) (entries : List Record) (desk : Seen K S D) (server : Server) : Type 0 where
  pub stands : IsServer desk.server server
  pub recorded : HasRecorded bases told desk.server.seal entries desk.book desk.latest desk.draw server

abbrev pub StandsFor : {K S D : Type 0} → Bases S D → (K → Option DiskTold) → Seen K S D → Server → Type 0
StandsFor bases told desk server = (entries : List Record) × KeepsFor bases told entries desk server

-- ---- a run

-- The last of these records is the begin of a run of this job.
pub record HasBegun {K S D : Type 0} (bases : Bases S D) (told : K → Option DiskTold) (entries : List Record) (job : ℕ) (desk : Seen K S D) (server : Server) : Type 0 where
  pub keeps : KeepsFor bases told entries desk server
  pub begun : keeps.recorded.reached.begun ≡ Some job

-- a service's reply to a job, where there is one
abbrev pub reply_by : {V : Type 0} → Step V → V → Option Job → List ℕ
reply_by serve service None = []
reply_by serve service (Some job) = (serve service job.request).0

-- its reply to the ready job of this place
abbrev pub reply_at : {V : Type 0} → Step V → V → ℕ → Queue → List ℕ
reply_at serve service place jobs = reply_by serve service (ready_job place jobs)

-- ---- a run that was cut off

-- what an opening at this moment adds behind what was reached: the end of a run that was cut off, where one began last
abbrev pub ending_by : ℕ → ℕ → ℕ → Option ℕ → List Record
ending_by now moment place None = []
ending_by now moment place (Some job) = record { moment = max moment now; place = place; event = Interrupted } ∷ []

abbrev pub ending : ℕ → Reached → List Record
ending now reached = ending_by now reached.server.now reached.place reached.begun

-- Behind what was reached, the run that was cut off is answered, and these records are all of the journal of this seed.
pub record Resumed {K S D : Type 0} (bases : Bases S D) (told : K → Option DiskTold) (seed : List ℕ) (now : ℕ) (reached : Reached) (entries : List Record) (desk : Seen K S D) : Type 0 where
  pub after : Reached
  pub replays : Replays (bases desk.server.seal seed) (ending now reached) reached after
  pub stands : KeepsFor bases told entries desk after.server
  pub seed_is : IsSomeAnd desk.book.journal (λ file. file.seed ≡ seed)

-- What is opened are records that the file spells, where the disk tells; they lead to some server, and what stands is that one
-- after the end of a run that was cut off.
pub record Opened {K S D : Type 0} (bases : Bases S D) (told : K → Option DiskTold) (disk : K) (now : ℕ) (desk : Seen K S D) : Type 0 where
  pub seed : List ℕ
  pub entries : List Record
  pub spells : IfSome (told disk) (λ before. Spells seed entries before.contents)
  pub reached : Reached
  pub replays : Replays (bases desk.server.seal seed) entries at_first reached
  pub resumed : Resumed bases told seed now reached (entries ++ ending now reached) desk

-- ---- calls

-- the journal is closed: a call of its disk failed before
abbrev pub IsClosed : {K : Type 0} → Book K → Type 0
IsClosed book = book.journal ≡ None

-- how long a journal may be, in bytes
abbrev pub journal_bytes_max : ℕ
journal_bytes_max = 268435456

-- it has this length, and so many bytes more would be too many
abbrev pub IsFull : {K : Type 0} → Book K → ℕ → ℕ → Type 0
IsFull book bytes len = IsSomeAnd book.journal (λ file. (len ≡ file.len) × (journal_bytes_max < len + bytes))

-- the most bytes that one event adds: those of a packet of 1,048,576, the longest one that a frame has, and 22 beside it
abbrev pub event_bytes_max : ℕ
event_bytes_max = 1048598

-- A call answers `Closed` exactly where the journal is closed, and `Full` exactly where it has no room for so many bytes more.
pub record Refuses {K A : Type 0} (bytes : ℕ) (book : Book K) (result : Result A DeskFault) : Type 0 where
  pub closed : IsClosed book ↔ (result ≡ Err faults.Closed)
  pub full : (len : ℕ) → (IsFull book bytes len ↔ (result ≡ Err (faults.Full len)))

-- behind a begin no call is refused but for memory or by the disk
abbrev pub IsAfterBegin : DeskFault → Type 0
IsAfterBegin fault = (fault ≡ faults.Memory) ⊎ (fault ≡ faults.Disk)

-- P holds where a call was refused before anything was done
abbrev pub IfNothingDone : Type 0 → DeskFault → Type 0
IfNothingDone P faults.Closed = P
IfNothingDone P (faults.Full len) = P
IfNothingDone P fault = ⊤

-- P says something of its disk before and after a call
abbrev pub OfDisks : {K : Type 0} → Book K → Book K → (K → K → Type 0) → Type 0
OfDisks before after P = IfSome (disk_in before) (λ one. IsSomeAnd (disk_in after) (λ other. P one other))

-- Where a call answers `Disk`, its disk's count rose in it, and the journal is closed from then on; else the count is as it was.
abbrev pub HasCounted : {K A : Type 0} → (K → ℕ) → Result A DeskFault → Book K → Book K → Type 0
HasCounted count (Err faults.Disk) before after = IsClosed after × OfDisks before after (λ one other. Rose (count one) (count other))
HasCounted count result before after = OfDisks before after (λ one other. count other ≡ count one)

-- it goes on telling, and is the same file
pub record IsSameDisk {K : Type 0} (told : K → Option DiskTold) (place : K → ℕ) (before after : K) : Type 0 where
  pub tells : is_some (told after) ≡ is_some (told before)
  pub place_is : place after ≡ place before

-- Whatever a crash at any moment of a call leaves, from the one before it to the one after it, has P; and so does the call. What
-- a crash since an earlier moment may have left, it may have left before the call, or it has P.
pub record LeavesSome (before after : DiskTold) (P : List ℕ → Type 0) : Type 0 where
  pub each : (left : List ℕ) → MayHaveLeft (length before.acts) after left → P left
  pub earlier : (since : ℕ) (left : List ℕ) → MayHaveLeft since after left → MayHaveLeft since before left ⊎ P left
  pub read : P after.contents
  pub longer : length before.acts ≤ length after.acts

-- These records are added behind the others, and are lawful there. A crash at any moment of the call leaves the records from
-- before it, or these and the first ones of the added; and so does the call.
pub record Adds {K S D : Type 0} (bases : Bases S D) (told : K → Option DiskTold) (entries more : List Record) (before after : Seen K S D) : Type 0 where
  pub file : File K
  pub opened : before.book.journal ≡ Some file
  pub disk : K
  pub stands : disk_in after.book ≡ Some disk
  pub reached : Reached
  pub replays : Replays (bases before.server.seal file.seed) (entries ++ more) at_first reached
  pub leaves : IfSome (told file.disk) (λ was. IsSomeAnd (told disk) (λ is. LeavesSome was is (SpellsSome file.seed entries more)))

-- A call of its disk failed in an event of a desk that stood for this server. Its file, where the disk tells, spells lawful records
-- that lead to that server, but for its moment, and behind them the first ones of at most two more lawful records.
pub record IsBroken {K S D : Type 0} (bases : Bases S D) (told : K → Option DiskTold) (desk : Seen K S D) (server : Server) : Type 0 where
  pub disk : K
  pub stands : disk_in desk.book ≡ Some disk
  pub seed : List ℕ
  pub entries : List Record
  pub reached : Reached
  pub replays : Replays (bases desk.server.seal seed) entries at_first reached
  pub same : server ≡ record reached.server { now = server.now }
  pub more : List Record
  pub few : length more ≤ 2
  pub after : Reached
  pub lawful : Replays (bases desk.server.seal seed) (entries ++ more) at_first after
  pub spells : IfSome (told disk) (λ file. SpellsSome seed entries more file.contents)

-- A desk behind a call that answered this fault, where it stood for this server. `Closed` is answered by none that stands for a
-- server, and `Full` only where there is no room for what one event may add.
abbrev pub Behind : {K S D : Type 0} → Bases S D → (K → Option DiskTold) → Seen K S D → DeskFault → Server → Type 0
Behind bases told desk faults.Memory server = StandsFor bases told desk server
Behind bases told desk faults.Closed server = ⊥
Behind bases told desk (faults.Full len) server = StandsFor bases told desk server × IsFull desk.book event_bytes_max len
Behind bases told desk faults.Disk server = IsBroken bases told desk server

-- the record of an event of a desk at this moment, or at the greatest so far where that is later, with the place of its draw
abbrev pub entry_at : {K S D : Type 0} → (D → ℕ) → Seen K S D → ℕ → Event (List ℕ) → Record
entry_at place_of desk now event = record { moment = max desk.latest now; place = place_of desk.draw; event = event }

-- A call for this server, whose event has these records in order, adds the first ones of them. Where it answers, P says which
-- these are. On want of memory they are the spare ones, and the desk stands for the server that it stood for.
pub record Journals {K S D A : Type 0} (bases : Bases S D) (told : K → Option DiskTold) (entries all spare : List Record) (server : Server) (before after : Seen K S D)
    (result : Result A DeskFault) (P : A → List Record → Type 0) : Type 0 where
  pub more : List Record
  pub back : List Record
  pub front : all ≡ more ++ back
  pub adds : Adds bases told entries more before after
  pub answers : IfOk result (λ value. P value more)
  pub memory : IfErr result (λ fault. fault ≡ faults.Memory → (more ≡ spare) × KeepsFor bases told (entries ++ more) after server)

-- an event gives neither a packet nor an entry
abbrev pub GivesNothing : Effects → Type 0
GivesNothing effects = (effects.out.outs ≡ []) × (effects.entries.entries ≡ [])

-- an event that gives something is recorded, and no other
pub record IsRecorded (nothing : Type 0) (entry : Record) (more : List Record) : Type 0 where
  pub none : nothing → more ≡ []
  pub one : (nothing → ⊥) → more ≡ entry ∷ []

-- P holds where a packet doesn't open, and Q where it was judged
abbrev pub ByHeard : Heard → Type 0 → Type 0 → Type 0
ByHeard (NotOpened refusal) P Q = P
ByHeard (Judged key session) P Q = Q
