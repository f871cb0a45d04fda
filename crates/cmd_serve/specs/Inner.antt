-- What the private parts of a run do: scaffolding of proofs, and no promise.
use Rattle.std.specs.Prelude.{◌≡◌, ◌≢◌, ◌⊎◌, ◌<◌, ◌+◌, ℕ, List, ◌∷◌, [], ◌++◌, codes, length, Option, Some, None, IfSome, IsSome, IsSomeAnd, ⊤}
use Rattle.auth_keys.specs.declared.ring.RingKey.{RingKey}
use Rattle.mt_edge.specs.Faults.{Rose, one_more}
use Rattle.mt_edge.specs.declared.act.Act.TheVariants.{Ready, Failed as NotReady}
use Rattle.mt_edge.specs.declared.net_call.NetCall.{NetCall}
use Rattle.mt_edge.specs.declared.net_call.NetCall.TheVariants.{Accept, Listen}
use Rattle.mt_edge.specs.declared.net_call.Outcome.TheVariants.{Failed}
use Rattle.disks.specs.Named.{NamesTold}
use Rattle.disks.specs.Told.{DiskTold}
use Rattle.commands.specs.declared.command.ServeOptions.{ServeOptions}
use Rattle.regs_service.specs.Registers as registers
use Rattle.server_core.specs.declared.desk.DeskFault.{DeskFault}
use Rattle.server_core.specs.declared.desk.DeskFault.TheVariants as faults
use Rattle.server_rules.specs.Server.{Server}
use Rattle.sess_journal.specs.Keeping.{Seen, StandsFor, count_of, disk_in, place_by}
use Rattle.sess_records.specs.Calls.{HasCause}
use Rattle.sess_records.specs.Format.{Spells}
use Rattle.sess_records.specs.declared.fault.JournalFault.{JournalFault}
use Rattle.sess_records.specs.declared.fault.JournalFault.TheVariants as causes
use Rattle.sess_journal.specs.Files.{IsNoJournalAt}
use Rattle.sess_journal.specs.Opening.{HaveSameRecords}
use Rattle.statuses.specs.Outside.{HadFault, IsUntouched, Outside, Part, Tells, Writes, WritesFront}
use Rattle.statuses.specs.declared.status.Status.TheVariants as status
use Rattle.statuses.specs.declared.status.Status.{Status}
use Rattle.server_node.specs.Record.{Answered}
use Rattle.server_node.specs.Served.{IfFull}
use Rattle.server_node.specs.Trace.{Rules, rules_of}
use Rattle.server_node.specs.Writes.{CountsDesk}
use Rattle.server_node.specs.declared.conn.ConnEnd.{ConnEnd}
use Rattle.server_node.specs.declared.conn.ConnEnd.TheVariants as ends
use Rattle.cmd_serve.specs.Connections.{AllGoOn, AreConnections, AreNoted, AreNotedBy, Between, Connection, CountsEnding, EndsBy, IsConnection, IsNoted, behind_all}
use Rattle.cmd_serve.specs.Lines.{journal_fault, listening, not_listening}
use Rattle.cmd_serve.specs.Packets.{outside_of}
use Rattle.cmd_serve.specs.Journals.{AsksClock, Drawing, HoldsSome, IsFilled, IsOpen, IsUnlawful, Keeping, SeedsBy, SpellsServer, SpellsUpTo, StartsBy, basis_of, Unopened, Faulty, Foreign, Starved, New, Old}
use Rattle.cmd_serve.specs.Runs.{Calls, CountsDisks, Course, Unread, Refused, Unbegun, Shut, Deaf, Mute, Serves, Draws, Ends, FailsNever, FailsOnce, GoesBy, IfTold, IsBroken, IsFull, IsServed, Moments, Registers, ServesBy}
use Rattle.cmd_serve.specs.declared.ending.Ending.{Ending}
use Rattle.cmd_serve.specs.declared.ending.Ending.TheVariants.{Served, Stopped, NotTaken, Journal, Full, Memory}

-- ---- behind the key file

-- the run goes so with this ring
abbrev pub IsWith : {D : Type 0} → List RingKey → Course D → Type 0
IsWith ring Unread = ⊥
IsWith ring (Refused line) = ⊥
IsWith ring Unbegun = ⊤
IsWith ring (Shut own) = own ≡ ring
IsWith ring (Deaf own) = own ≡ ring
IsWith ring (Mute own) = own ≡ ring
IsWith ring (Serves own connections ending) = own ≡ ring

pub record RunsWith {N O D K : Type 0} (drawing : Drawing D) (options : ServeOptions) (ring : List RingKey) (net : Part (List NetCall) N) (out : Outside O) (moments : Moments) (draws : Draws D) (disks : Part NamesTold K) (result : Status) : Type 0 where
  pub course : Course D
  pub keeping : Keeping
  pub own : IsWith ring course
  pub calls : Calls options.port net course
  pub goes : GoesBy drawing options options.journal disks moments draws keeping course
  pub counts : CountsDisks disks keeping course
  pub tells : IsSome (disks.told disks.before) → IsSome (disks.told disks.after)
  pub ends : Ends options out keeping course result
  pub full : IsFull course → IfSome options.journal (λ name. IfTold disks (λ before after. HoldsSome name IsFilled after))

-- connections are asked for, with this ring
abbrev pub IsBegun : {D : Type 0} → List RingKey → Course D → Type 0
IsBegun ring Unread = ⊥
IsBegun ring (Refused line) = ⊥
IsBegun ring Unbegun = ⊥
IsBegun ring (Shut own) = ⊥
IsBegun ring (Deaf own) = own ≡ ring
IsBegun ring (Mute own) = own ≡ ring
IsBegun ring (Serves own connections ending) = own ≡ ring

-- the same without a journal
pub record RunsAlone {N O D : Type 0} (step : D → ℕ × D) (options : ServeOptions) (ring : List RingKey) (net : Part (List NetCall) N) (out : Outside O) (moments : Moments) (draws : Draws D) (result : Status) : Type 0 where
  pub course : Course D
  pub own : IsBegun ring course
  pub calls : Calls options.port net course
  pub serves : ServesBy step options moments draws course
  pub whole : IsBroken course → ⊥
  pub ends : Ends options out Unopened course result

-- ---- behind the opening

-- The port is listened on, and the first line is written.
pub record Hears {N O : Type 0} (port : ℕ) (net : Part (List NetCall) N) (out : Outside O) : Type 0 where
  pub called : IfTold net (λ before after. after ≡ before ++ Listen port Ready ∷ [])
  pub counted : FailsNever net
  pub tells : IsSome (net.told net.before) → net.faults net.before ≡ 0 → IsSome (net.told net.after)
  pub written : Writes out (listening port)

-- It can't be listened on, and a line says so.
pub record IsDeaf {N O : Type 0} (port : ℕ) (net : Part (List NetCall) N) (out : Outside O) (one : Status) : Type 0 where
  pub called : IfTold net (λ before after. after ≡ before ++ Listen port NotReady ∷ [])
  pub counted : FailsOnce net
  pub tells : IsSome (net.told net.before) → net.faults net.before ≡ 0 → IsSome (net.told net.after)
  pub ends : Tells out status.NotListening not_listening one

-- It is, but the first line isn't written.
pub record IsMute {N O : Type 0} (port : ℕ) (net : Part (List NetCall) N) (out : Outside O) (one : Status) : Type 0 where
  pub called : IfTold net (λ before after. after ≡ before ++ Listen port Ready ∷ [])
  pub counted : FailsNever net
  pub tells : IsSome (net.told net.before) → net.faults net.before ≡ 0 → IsSome (net.told net.after)
  pub ends : (one ≡ status.WriteFault) × HadFault out × WritesFront out (listening port)

-- what is written behind the first line, where `served` is what is due as all connections are served
abbrev pub EndsBehind : {O : Type 0} → List ℕ → Outside O → Ending → Status → Type 0
EndsBehind served out Served one = Tells out status.Done served one
EndsBehind served out Stopped one = Tells out status.Done (codes "stopped\n") one
EndsBehind served out NotTaken one = Tells out status.NotListening not_listening one
EndsBehind served out Journal one = Tells out status.JournalFault journal_fault one
EndsBehind served out Full one = Tells out status.JournalFault journal_fault one
EndsBehind served out Memory one = (one ≡ status.Memory) × IsUntouched out

-- the journal had no room for an event: the desk stands for this server, and is what it is behind that fault
pub record LeavesFull (desk : Server → Type 0) (behind : DeskFault → Server → Type 0) (server : Server) : Type 0 where
  pub len : ℕ
  pub stands : desk server
  pub full : behind (faults.Full len) server

-- after a call of the disk that failed the desk is what it is behind that fault, for this server; else it stands for this one
abbrev pub LeavesDesk : Ending → (Server → Type 0) → (DeskFault → Server → Type 0) → Server → Type 0
LeavesDesk Served desk behind server = desk server
LeavesDesk Stopped desk behind server = desk server
LeavesDesk NotTaken desk behind server = desk server
LeavesDesk Journal desk behind server = behind faults.Disk server
LeavesDesk Full desk behind server = LeavesFull desk behind server
LeavesDesk Memory desk behind server = desk server

-- a desk that stood for a server answers these faults alone
abbrev pub IsServeFault : DeskFault → Type 0
IsServeFault faults.Memory = ⊤
IsServeFault faults.Disk = ⊤
IsServeFault (faults.Full len) = ⊤
IsServeFault faults.Closed = ⊥

-- it may answer that it has no room
abbrev pub MayBeFull : (DeskFault → Type 0) → Type 0
MayBeFull may = (len : ℕ) × may (faults.Full len)

-- a connection that ends by the desk ends by a fault that this one may answer, and not by want of memory
abbrev pub IsDeskEnd : (DeskFault → Type 0) → Option ConnEnd → Type 0
IsDeskEnd may None = ⊤
IsDeskEnd may (Some (ends.Journal fault)) = may fault × (fault ≢ faults.Memory)
IsDeskEnd may (Some ends.Ended) = ⊤
IsDeskEnd may (Some ends.LinkFault) = ⊤
IsDeskEnd may (Some (ends.Frame fault)) = ⊤
IsDeskEnd may (Some ends.Start) = ⊤
IsDeskEnd may (Some ends.TurnsSpent) = ⊤
IsDeskEnd may (Some ends.Stopped) = ⊤
IsDeskEnd may (Some ends.Memory) = ⊤

-- the count of the failed calls of what a desk keeps its events on, where a connection is taken, and for all of them
abbrev pub CountsTaken : Option ConnEnd → ℕ → ℕ → Type 0
CountsTaken None before after = after ≡ before
CountsTaken (Some end) before after = CountsDesk (Some end) before after

abbrev pub CountsDeskBy : Ending → ℕ → ℕ → Type 0
CountsDeskBy Journal before after = Rose before after
CountsDeskBy Served before after = after ≡ before
CountsDeskBy Stopped before after = after ≡ before
CountsDeskBy NotTaken before after = after ≡ before
CountsDeskBy Full before after = after ≡ before
CountsDeskBy Memory before after = after ≡ before

-- Connections are served with a desk that stands there, and end so.
pub record ServesOn {N D : Type 0} (rules : Rules D Registers) (options : ServeOptions) (first : Between D Registers) (net : Part (List NetCall) N) (given : Option (List ℕ)) (desk : Server → Type 0) (behind : DeskFault → Server → Type 0) (drawn : D) (ending : Ending) : Type 0 where
  pub connections : List (Connection D Registers)
  pub are : IsServed rules first options.conns given drawn connections ending
  pub leaves : LeavesDesk ending desk behind (behind_all first connections).server
  pub noted : IfTold net (λ before after. (made : List NetCall) × (after ≡ before ++ made) × AreNotedBy ending connections made)
  pub counted : CountsEnding ending (net.faults net.before) (net.faults net.after)
  pub tells : IsSome (net.told net.before) → net.faults net.before ≡ 0 → IsSome (net.told net.after)

-- ---- a journal's file

-- what an open file holds, by what becomes of it
abbrev pub FoundIn : {D : Type 0} → Drawing D → List RingKey → Keeping → List ℕ → Type 0
FoundIn drawing ring Unopened bytes = ⊤
FoundIn drawing ring Faulty bytes = ⊤
FoundIn drawing ring (Foreign at) bytes = (bytes ≢ []) × IsNoJournalAt (basis_of drawing ring) at bytes × IsUnlawful drawing ring bytes
FoundIn drawing ring Starved bytes = bytes ≢ []
FoundIn drawing ring (New seed) bytes = bytes ≡ []
FoundIn drawing ring (Old seed entries now) bytes = Spells seed entries bytes

-- A server comes of an open file: what the file held, what the clock and the draw were asked for, and the server with its journal.
pub record OpensFile {K D : Type 0} (drawing : Drawing D) (ring : List RingKey) (told : K → Option DiskTold) (place faults : K → ℕ) (disk : K) (given given_then : Option (List ℕ)) (draw draw_then : D)
    (desk : Seen K (List RingKey) D) : Type 0 where
  pub keeping : Keeping
  pub opened : IsOpen keeping
  pub found : IfSome (told disk) (λ file. FoundIn drawing ring keeping file.contents)
  pub clock : AsksClock keeping given given_then
  pub seeded : SeedsBy drawing keeping draw draw_then
  pub server : Server
  pub starts : StartsBy drawing ring keeping draw server desk.draw
  pub stands : StandsFor (λ (own : List RingKey) (seed : List ℕ). basis_of drawing own seed) told desk server
  pub ring_is : desk.server.seal ≡ ring
  pub same_place : place_by place (disk_in desk.book) ≡ place disk
  pub counted : count_of faults (disk_in desk.book) ≡ faults disk

-- what became of the file, by the cause
abbrev pub IsBecause : JournalFault → Keeping → Type 0
IsBecause causes.Disk keeping = keeping ≡ Faulty
IsBecause (causes.NotJournal at) keeping = keeping ≡ Foreign at
IsBecause causes.Memory keeping = keeping ≡ Starved

-- what it holds when it is given back, by the cause: after a call of its disk that failed nothing is said of it
abbrev pub IsLeft : JournalFault → Option DiskTold → Option DiskTold → Type 0
IsLeft causes.Disk before after = ⊤
IsLeft (causes.NotJournal at) before after = IfSome before (λ was. IsSomeAnd after (λ is. is.contents ≡ was.contents))
IsLeft causes.Memory before after = IfSome before (λ was. IsSomeAnd after (λ is. (is.contents ≡ was.contents) ⊎ HaveSameRecords was.contents is.contents))

-- None comes of it, for this cause.
pub record ShutsFile {K D : Type 0} (drawing : Drawing D) (ring : List RingKey) (told : K → Option DiskTold) (place faults : K → ℕ) (disk : K) (given given_then : Option (List ℕ)) (draw draw_then : D)
    (back : K × JournalFault) : Type 0 where
  pub keeping : Keeping
  pub cause : IsBecause back.1 keeping
  pub found : IfSome (told disk) (λ file. FoundIn drawing ring keeping file.contents)
  pub clock : AsksClock keeping given given_then
  pub seeded : SeedsBy drawing keeping draw draw_then
  pub unharmed : IsLeft back.1 (told disk) (told back.0)
  pub counted : HasCause back.1 (faults disk) (faults back.0)
  pub same_place : place back.0 ≡ place disk

-- no server comes of the journal's file, for this cause
abbrev pub EndsBecause : {O : Type 0} → Outside O → JournalFault → Status → Type 0
EndsBecause out causes.Disk one = Tells out status.JournalFault journal_fault one
EndsBecause out (causes.NotJournal at) one = Tells out status.JournalFault journal_fault one
EndsBecause out causes.Memory one = (one ≡ status.Memory) × IsUntouched out

-- ---- with a journal

-- the server of a journal with a draw, from which connections begin
abbrev pub first_kept : {D : Type 0} → ServeOptions → Option (List ℕ) → Server → D → Between D Registers
first_kept options given server draw = record { server = server; draw = draw; service = registers.fresh; given = given; left = options.stop_after }

-- what a course served
abbrev pub served_in : {D : Type 0} → Course D → List (Connection D Registers)
served_in Unread = []
served_in (Refused line) = []
served_in Unbegun = []
served_in (Shut ring) = []
served_in (Deaf ring) = []
served_in (Mute ring) = []
served_in (Serves ring connections ending) = connections

-- so it goes from there
abbrev pub GoesFrom : {D : Type 0} → (D → ℕ × D) → ServeOptions → Between D Registers → Option (List ℕ) → Course D → Type 0
GoesFrom step options first given_then Unread = ⊥
GoesFrom step options first given_then (Refused line) = ⊥
GoesFrom step options first given_then Unbegun = ⊥
GoesFrom step options first given_then (Shut ring) = ⊥
GoesFrom step options first given_then (Deaf ring) = given_then ≡ first.given
GoesFrom step options first given_then (Mute ring) = given_then ≡ first.given
GoesFrom step options first given_then (Serves ring connections ending) =
    IsServed (rules_of step registers.step (outside_of ring)) first options.conns given_then (behind_all first connections).draw connections ending

-- the count of the failed calls of a file, by how the connections ended, and in a course
abbrev pub CountsFileBy : Ending → ℕ → ℕ → Type 0
CountsFileBy Journal before after = Rose before after
CountsFileBy Served before after = after ≡ before
CountsFileBy Stopped before after = after ≡ before
CountsFileBy NotTaken before after = after ≡ before
CountsFileBy Full before after = after ≡ before
CountsFileBy Memory before after = after ≡ before

abbrev pub CountsFile : {D : Type 0} → Course D → ℕ → ℕ → Type 0
CountsFile Unread before after = ⊥
CountsFile (Refused line) before after = ⊥
CountsFile Unbegun before after = ⊥
CountsFile (Shut ring) before after = ⊥
CountsFile (Deaf ring) before after = after ≡ before
CountsFile (Mute ring) before after = after ≡ before
CountsFile (Serves ring connections ending) before after = CountsFileBy ending before after

-- P holds, unless a call of the disk failed
abbrev pub UnlessBroken : {D : Type 0} → Course D → Type 0 → Type 0
UnlessBroken Unread P = P
UnlessBroken (Refused line) P = P
UnlessBroken Unbegun P = P
UnlessBroken (Shut ring) P = P
UnlessBroken (Deaf ring) P = P
UnlessBroken (Mute ring) P = P
UnlessBroken (Serves ring connections Served) P = P
UnlessBroken (Serves ring connections Stopped) P = P
UnlessBroken (Serves ring connections NotTaken) P = P
UnlessBroken (Serves ring connections Journal) P = ⊤
UnlessBroken (Serves ring connections Full) P = P
UnlessBroken (Serves ring connections Memory) P = P

-- A run with the server of a journal, which gives its file back.
pub record ServesKept {N O K D : Type 0} (drawing : Drawing D) (options : ServeOptions) (ring : List RingKey) (told : K → Option DiskTold) (place faults : K → ℕ) (first : Between D Registers) (place_then count_then : ℕ)
    (net : Part (List NetCall) N) (out : Outside O) (given : Option (List ℕ)) (back : K × Status) : Type 0 where
  pub course : Course D
  pub own : IsBegun ring course
  pub calls : Calls options.port net course
  pub goes : GoesFrom drawing.step options first given course
  pub leaves : UnlessBroken course (IfSome (told back.0) (λ file. SpellsServer drawing ring (behind_all first (served_in course)).server (behind_all first (served_in course)).draw file.contents))
  pub up_to : IfSome (told back.0) (λ file. SpellsUpTo drawing ring (behind_all first (served_in course)).server file.contents)
  pub same_place : place back.0 ≡ place_then
  pub counted : CountsFile course count_then (faults back.0)
  pub ends : Ends options out Unopened course back.1
  pub full : IsFull course → IfSome (told back.0) (λ file. IsFilled file.contents)

-- ---- between connections

-- a desk, its draw, a service, a clock and a count stand there
pub record StandsAt {S V : Type 0} (desk : Server → Type 0) (drawn : S) (service : V) (given : Option (List ℕ)) (left : Option ℕ) (between : Between S V) : Type 0 where
  pub server : desk between.server
  pub draw : drawn ≡ between.draw
  pub served : service ≡ between.service
  pub gave : given ≡ between.given
  pub count : left ≡ between.left

-- what stands where: a desk, what it is behind its faults, its draw, a service, a clock, a count, and the calls of a net
pub record Side (S V : Type 0) : Type 1 where
  pub desk : Server → Type 0
  pub behind : DeskFault → Server → Type 0
  pub drawn : S
  pub service : V
  pub given : Option (List ℕ)
  pub left : Option ℕ
  pub calls : Option (List NetCall)

abbrev pub IsAt : {S V : Type 0} → Side S V → Between S V → Type 0
IsAt side between = StandsAt side.desk side.drawn side.service side.given side.left between

-- the same but for the desk
pub record IsBeside {S V : Type 0} (side : Side S V) (between : Between S V) : Type 0 where
  pub draw : side.drawn ≡ between.draw
  pub served : side.service ≡ between.service
  pub gave : side.given ≡ between.given
  pub count : side.left ≡ between.left

-- behind a connection that ended by this fault of the desk
pub record IsBehindFault {S V : Type 0} (fault : DeskFault) (side : Side S V) (between : Between S V) : Type 0 where
  pub beside : IsBeside side between
  pub behind : side.behind fault between.server
  pub kept : IfFull fault (side.desk between.server)

-- and by a full journal
pub record IsBehindFull {S V : Type 0} (side : Side S V) (between : Between S V) : Type 0 where
  pub len : ℕ
  pub stands : IsAt side between
  pub behind : side.behind (faults.Full len) between.server

-- behind a connection that ended so
abbrev pub IsBehind : {S V : Type 0} → ConnEnd → Side S V → Between S V → Type 0
IsBehind (ends.Journal fault) side between = IsBehindFault fault side between
IsBehind ends.Ended side between = IsAt side between
IsBehind ends.LinkFault side between = IsAt side between
IsBehind (ends.Frame fault) side between = IsAt side between
IsBehind ends.Start side between = IsAt side between
IsBehind ends.TurnsSpent side between = IsAt side between
IsBehind ends.Stopped side between = IsAt side between
IsBehind ends.Memory side between = IsAt side between

-- behind connections that ended so
abbrev pub IsBehindAll : {S V : Type 0} → Ending → Side S V → Between S V → Type 0
IsBehindAll Served side between = IsAt side between
IsBehindAll Stopped side between = IsAt side between
IsBehindAll NotTaken side between = IsAt side between
IsBehindAll Journal side between = IsBehindFault faults.Disk side between
IsBehindAll Full side between = IsBehindFull side between
IsBehindAll Memory side between = IsAt side between

-- ---- one attempt to take a connection

-- a connection was taken and served
pub record TookOne {S V : Type 0} (rules : Rules S V) (before : Between S V) (calls : Option (List NetCall)) (end : ConnEnd) (later : Side S V) : Type 0 where
  pub one : Connection S V
  pub ended : one.end ≡ end
  pub is : IsConnection rules before one
  pub stands : IsBehind end later one.behind
  pub noted : IfSome later.calls (λ after. IsSomeAnd calls (λ first. (call : NetCall) × (after ≡ first ++ call ∷ []) × IsNoted one call))

-- none could be taken
pub record TookNone {S V : Type 0} (before : Between S V) (calls : Option (List NetCall)) (later : Side S V) : Type 0 where
  pub stands : IsAt later before
  pub noted : IfSome later.calls (λ after. IsSomeAnd calls (λ first. after ≡ first ++ Accept Failed ∷ []))

abbrev pub Took : {S V : Type 0} → Rules S V → Between S V → Option (List NetCall) → Option ConnEnd → Side S V → Type 0
Took rules before calls None later = TookNone before calls later
Took rules before calls (Some end) later = TookOne rules before calls end later

abbrev pub CountsTaking : Option ConnEnd → ℕ → ℕ → Type 0
CountsTaking None before after = after ≡ one_more before
CountsTaking (Some end) before after = after ≡ before

abbrev pub LeavesCount : Option ConnEnd → Option ℕ → Option ℕ → Type 0
LeavesCount None before after = after ≡ before
LeavesCount (Some end) before after = Answered (Some end) before after

-- how the connections end by a fault of the desk
abbrev pub broken_by : DeskFault → Ending
broken_by (faults.Full len) = Full
broken_by faults.Disk = Journal
broken_by faults.Closed = Journal
broken_by faults.Memory = Journal

-- how the connections end by it, where they do
abbrev pub ending_by : Option ConnEnd → Option Ending
ending_by None = Some NotTaken
ending_by (Some ends.Stopped) = Some Stopped
ending_by (Some (ends.Journal fault)) = Some (broken_by fault)
ending_by (Some ends.Memory) = Some Memory
ending_by (Some end) = None

-- ---- all connections

-- so many were served, and each was followed by the next
pub record ServedSoFar {S V : Type 0} (rules : Rules S V) (first : Between S V) (count : ℕ) (calls : Option (List NetCall)) (later : Side S V) : Type 0 where
  pub connections : List (Connection S V)
  pub are : AreConnections rules first connections
  pub go_on : AllGoOn connections
  pub count_is : length connections ≡ count
  pub stands : IsAt later (behind_all first connections)
  pub noted : IfSome later.calls (λ after. IsSomeAnd calls (λ before. (made : List NetCall) × (after ≡ before ++ made) × AreNoted connections made))

-- all were, and ended so
pub record ServedAll {S V : Type 0} (rules : Rules S V) (first : Between S V) (conns : ℕ) (calls : Option (List NetCall)) (ending : Ending) (later : Side S V) : Type 0 where
  pub connections : List (Connection S V)
  pub are : AreConnections rules first connections
  pub ended : EndsBy conns ending connections
  pub stands : IsBehindAll ending later (behind_all first connections)
  pub noted : IfSome later.calls (λ after. IsSomeAnd calls (λ before. (made : List NetCall) × (after ≡ before ++ made) × AreNotedBy ending connections made))
