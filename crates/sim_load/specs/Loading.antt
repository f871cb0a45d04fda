-- A large schedule so far, as it is kept.
use Rattle.std.specs.Prelude.{◌≡◌, ◌<◌, ◌≤◌, ℕ, Bool, true, false, not, is_some, Some, List, length, Result, Ok, Err, ⊤}
use Rattle.auth_keys.specs.declared.ring.RingKey.{RingKey}
use Rattle.envelope.specs.Packet.{Lock}
use Rattle.octets.specs.declared.memory.Memory.{Memory}
use Rattle.regs_service.specs.Served.{Step}
use Rattle.sched_text.specs.declared.event.Event.{Event}
use Rattle.sched_text.specs.declared.event.Event.TheVariants as line
use Rattle.sim_server.specs.Settings.{IsOf, Sealing}
use Rattle.world_rules.specs.Load.{Settling, does, goes_on, next_step}
use Rattle.world_rules.specs.Refusals.{refusal}
use Rattle.world_rules.specs.Run.{step}
use Rattle.world_rules.specs.Setting.{Setting}
use Rattle.sim_world.specs.Worlds.{World, Stands as WorldStands, world_setting}
use Rattle.sim_world.specs.declared.fault.StepFault.{StepFault}
use Rattle.sim_world.specs.declared.fault.StepFault.TheVariants as fault
use Rattle.sim_load.specs.Given.{Notes}
use Rattle.sim_load.specs.Plain.{ArePlain}

-- What contracts see of it: the world, and by a flag for each number which packets were given.
pub record Loading (S V D : Type 0) : Type 0 where
  pub world : World S V D
  pub given : List Bool

-- It stands for a settling of the definitions.
pub record Stands {S V D : Type 0} (setting : Setting D V) (kept : Loading S V D) (settling : Settling D V) : Type 0 where
  pub world : WorldStands setting kept.world settling.world
  pub given : Notes kept.given settling.given
  pub plain : ArePlain settling.world

-- This holds for each settling that it stands for, in each setting that says what the seal does under this ring.
abbrev pub OfEach : {S V D : Type 0} → Lock → (D → ℕ × D) → Step V → V → List RingKey → Loading S V D → (Setting D V → Settling D V → Type 0) → Type 0
OfEach {S} {V} {D} lock step serve fresh ring before Told =
    (sealing : Sealing) (settling : Settling D V) → let setting : Setting D V = world_setting step serve fresh ring sealing in
    IsOf lock ring setting → Stands setting before settling → Told setting settling

-- An event was tried: it is done exactly where it isn't refused, and what is left stands for what it makes.
pub record Tried {S V D : Type 0} (setting : Setting D V) (settling : Settling D V) (event : Event) (is_done : Bool) (after : Loading S V D) : Type 0 where
  pub refused : is_some (refusal setting settling.world event) ≡ not is_done
  pub stands : Stands setting after (does setting event settling)

-- What is answered, by what the step answered: whether it was done, or that memory ran out.
abbrev pub Answers : {X : Type 0} → Result X StepFault → Result Bool Memory → Type 0
Answers (Ok done) (Ok is_done) = is_done ≡ true
Answers (Ok done) (Err memory) = ⊥
Answers (Err fault.Memory) (Ok is_done) = ⊥
Answers (Err fault.Memory) (Err memory) = ⊤
Answers (Err fault) (Ok is_done) = is_done ≡ false
Answers (Err fault) (Err memory) = ⊥

-- The client flushed, and whether that made a packet.
pub record Flushed {S V D : Type 0} (setting : Setting D V) (settling : Settling D V) (made : Bool) (after : Loading S V D) : Type 0 where
  pub grew : made ≡ true → length settling.world.bag < length (step setting settling.world (line.Flush 1)).bag
  pub stayed : made ≡ false → length (step setting settling.world (line.Flush 1)).bag ≤ length settling.world.bag
  pub stands : Stands setting after (does setting (line.Flush 1) settling)

-- Nothing can be done, or what can be done changes nothing: however often it goes on, it stays as it is.
abbrev pub Rests : {S V : Type 0} → Setting S V → Settling S V → Type 0
Rests setting settling = (n : ℕ) → goes_on setting n settling (next_step setting settling) ≡ settling

-- One step of a settling, where there was one; else it rests.
abbrev pub Goes : {S V D : Type 0} → Setting D V → Settling D V → Bool → Loading S V D → Type 0
Goes {S} {V} {D} setting settling true after = (next : Settling D V) × (next_step setting settling ≡ Some next) × Stands setting after next
Goes {S} {V} {D} setting settling false after = Rests setting settling × Stands setting after settling
