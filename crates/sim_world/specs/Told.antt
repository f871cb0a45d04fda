-- What is answered to an event, and what it leaves.
use Rattle.std.specs.Prelude.{◌≡◌, ◌≢◌, ℕ, List, Option, Some, None, option_map, Result, Ok, Err, IfErr, OnErr, OnOk, ⊤}
use Rattle.auth_keys.specs.declared.ring.RingKey.{RingKey}
use Rattle.envelope.specs.Packet.{Lock}
use Rattle.regs_service.specs.Served.{Step}
use Rattle.sched_text.specs.declared.event.Event.{Event}
use Rattle.sched_text.specs.declared.event.Event.TheVariants as line
use Rattle.sim_clients.specs.declared.fault.SeatFault.{SeatFault}
use Rattle.sim_clients.specs.declared.fault.SeatFault.TheVariants as seat
use Rattle.sim_server.specs.Settings.{IsOf, Sealing}
use Rattle.world_rules.specs.Refusals.{Refusal, NoClient, WrongState, NoPacket, NoJob, ForeignOpens, Submit, NumbersSpent, NotSent, refusal}
use Rattle.world_rules.specs.Run as run
use Rattle.world_rules.specs.Setting.{Setting}
use Rattle.world_rules.specs.World.{World as Rules}
use Rattle.sim_world.specs.declared.fault.StepFault.{StepFault}
use Rattle.sim_world.specs.declared.fault.StepFault.TheVariants as told
use Rattle.sim_text.specs.Faults.{fault_of}
use Rattle.sim_world.specs.Worlds.{World, Stands, world_setting}

-- what a client's fault is as a world's
abbrev pub step_fault : SeatFault → StepFault
step_fault seat.NoClient = told.NoClient
step_fault seat.WrongState = told.WrongState
step_fault (seat.Submit fault) = told.Submit fault
step_fault seat.Spent = told.Spent
step_fault seat.NotSent = told.NotSent
step_fault seat.Memory = told.Memory

-- the refusal that a fault tells; that memory ran out is none
abbrev pub refusal_of : StepFault → Option Refusal
refusal_of (told.NoPacket k) = Some (NoPacket k)
refusal_of told.NoClient = Some NoClient
refusal_of (told.NoJob k) = Some (NoJob k)
refusal_of told.ForeignOpens = Some ForeignOpens
refusal_of told.WrongState = Some WrongState
refusal_of (told.Submit fault) = option_map Submit (fault_of fault)
refusal_of told.Spent = Some NumbersSpent
refusal_of told.NotSent = Some NotSent
refusal_of told.Memory = None

-- a fault tells this refusal
abbrev pub IsTold : Option Refusal → Option Refusal → Type 0
IsTold due None = ⊥
IsTold due (Some refusal) = due ≡ Some refusal

-- the answer is the refusal exactly where there is one, unless memory runs out
abbrev pub Tells : {X : Type 0} → Option Refusal → Result X StepFault → Type 0
Tells due (Ok done) = due ≡ None
Tells due (Err told.Memory) = ⊤
Tells due (Err fault) = IsTold due (refusal_of fault)

-- an event that takes no memory: a clock, a loss, a client's wish
abbrev pub TakesNoMemory : Event → Type 0
TakesNoMemory (line.ClockAll at) = ⊤
TakesNoMemory (line.ClockServer at) = ⊤
TakesNoMemory (line.ClockClient client at) = ⊤
TakesNoMemory (line.Lose client) = ⊤
TakesNoMemory (line.TickClient client) = ⊤
TakesNoMemory (line.AttachClient client) = ⊤
TakesNoMemory (line.Ping client) = ⊤
TakesNoMemory (line.Salts client count) = ⊤
TakesNoMemory (line.DropAnswer client call) = ⊤
TakesNoMemory (line.Renew client) = ⊤
TakesNoMemory (line.End client) = ⊤
TakesNoMemory event = ⊥

-- An event is answered so and leaves this world: the refusal where it is refused, else it is done. A refused event leaves what
-- it stood for, and one for which memory ran out leaves that but for the draw.
pub record Steps {S V D X : Type 0} (setting : Setting D V) (world : Rules D V) (event : Event) (result : Result X StepFault) (after : World S V D) : Type 0 where
  pub refused : Tells (refusal setting world event) result
  pub done : OnOk result (Stands setting after (run.after setting world event))
  pub kept : OnErr result (Stands setting after (record world { draw = after.draw }))
  -- words are drawn for nothing only where memory runs out
  pub drawn : IfErr result (λ fault. fault ≢ told.Memory → after.draw ≡ world.draw)

-- So it is for each world that the kept one stands for, in each setting that says what the seal does under this ring.
abbrev pub StepsFrom : {S V D X : Type 0} → Lock → (D → ℕ × D) → Step V → V → List RingKey → World S V D → Event → Result X StepFault → World S V D → Type 0
StepsFrom {S} {V} {D} {X} lock step serve fresh ring before event result after =
    (sealing : Sealing) (world : Rules D V) → let setting : Setting D V = world_setting step serve fresh ring sealing in
    IsOf lock ring setting → Stands setting before world → Steps setting world event result after
