-- What an event leaves, by its parts.
use Rattle.std.proofs.Common.{◌≡◌, ℕ, List, Option, None, Ok, Err, refl, sym, subst}
use Rattle.client_core.specs.declared.fault.SubmitFault.TheVariants as submit
use Rattle.sched_text.specs.declared.event.Event.{Event}
use Rattle.sim_clients.specs.Told.{TellsRefusal}
use Rattle.sim_clients.specs.declared.fault.SeatFault.{SeatFault}
use Rattle.sim_clients.specs.declared.fault.SeatFault.TheVariants as seat
use Rattle.world_rules.specs.Refusals.{Refusal, NoClient, refusal}
use Rattle.world_rules.specs.Run as run
use Rattle.world_rules.specs.Setting.{Setting}
use Rattle.world_rules.specs.World.{Seat, World as Rules}
use Rattle.sim_server.specs.Hosts.{Host, Stays, Stands as HostStands}
use Rattle.sim_world.specs.Told.{Steps, Tells, step_fault}
use Rattle.sim_world.specs.Worlds.{Stands, World}
use Rattle.sim_world.specs.declared.fault.StepFault.{StepFault}

-- ---- refusals

-- a client's fault is the world's
pub tells-as : (X Y : Type 0) (due : Option Refusal) (fault : SeatFault) → TellsRefusal {X = X} due (Err fault) → Tells {X = Y} due (Err (step_fault fault))
tells-as X Y due seat.NoClient told = told
tells-as X Y due seat.WrongState told = told
tells-as X Y due (seat.Submit (submit.TooLong len)) told = told
tells-as X Y due (seat.Submit (submit.NotWords len)) told = told
tells-as X Y due (seat.Submit (submit.ServiceTag tag)) told = told
tells-as X Y due (seat.Submit submit.NoSuchCall) told = told
tells-as X Y due (seat.Submit submit.TooMany) told = told
tells-as X Y due (seat.Submit submit.Memory) told = told
tells-as X Y due seat.Spent told = told
tells-as X Y due seat.NotSent told = told
tells-as X Y due seat.Memory told = tt

-- ---- the server's side

-- it stands for the same world with another draw, with other clients, and with other room
pub redrawn : {S V D : Type 0} (setting : Setting D V) (host : Host S V) (draw other : D) (world : Rules D V)
    → HostStands setting host draw world → HostStands setting host other (record world { draw = other })
redrawn setting host draw other world stands =
    record {
      server = stands.server;
      moment = stands.moment;
      service = stands.service;
      clock = stands.clock;
      drawn = refl;
      start = stands.start;
      bag = stands.bag;
      entries = stands.entries;
    }

pub reseated : {S V D : Type 0} (setting : Setting D V) (host : Host S V) (draw : D) (seats : List Seat) (world : Rules D V)
    → HostStands setting host draw world → HostStands setting host draw (record world { seats = seats })
reseated setting host draw seats world stands =
    record {
      server = stands.server;
      moment = stands.moment;
      service = stands.service;
      clock = stands.clock;
      drawn = stands.drawn;
      start = stands.start;
      bag = stands.bag;
      entries = stands.entries;
    }

with-room : {S V D : Type 0} (setting : Setting D V) (host : Host S V) (room : ℕ) (draw : D) (world : Rules D V)
    → HostStands setting host draw world → HostStands setting (record host { room = room }) draw world
with-room setting host room draw world stands =
    record {
      server = stands.server;
      moment = stands.moment;
      service = stands.service;
      clock = stands.clock;
      drawn = stands.drawn;
      start = stands.start;
      bag = stands.bag;
      entries = stands.entries;
    }

pub stays-stands : {S V D : Type 0} (setting : Setting D V) (before after : Host S V) (draw : D) (world : Rules D V)
    → Stays before after → HostStands setting before draw world → HostStands setting after draw world
stays-stands setting before after draw world stays stands =
    subst (λ host. HostStands setting host draw world) (sym stays) (with-room setting before after.room draw world stands)

-- ---- the whole event

pub does : {S V D X : Type 0} (setting : Setting D V) (world : Rules D V) (event : Event) (done : X) (after : World S V D)
    → refusal setting world event ≡ None → Stands setting after (run.after setting world event) → Steps setting world event (Ok done) after
does setting world event done after free stands = record { refused = free; done = stands; kept = tt; drawn = tt }

pub refuses : {S V D X : Type 0} (setting : Setting D V) (world : Rules D V) (event : Event) (fault : StepFault) (after : World S V D)
    → Tells {X = X} (refusal setting world event) (Err fault) → after.draw ≡ world.draw → Stands setting after (record world { draw = after.draw })
    → Steps {X = X} setting world event (Err fault) after
refuses setting world event fault after told drawn stands = record { refused = told; done = tt; kept = stands; drawn = λ other. drawn }
