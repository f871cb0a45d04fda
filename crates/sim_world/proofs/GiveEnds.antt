-- A packet comes to its end: the whole event.
use Rattle.std.proofs.Common.{◌≡◌, ◌∙◌, ℕ, true, false, List, Option, Some, None, Result, Ok, Err, ap, sym, subst}
use Rattle.std.specs.Prelude.{IsErr, IsErrAnd}
use Rattle.sched_text.specs.declared.event.Event.{Event}
use Rattle.sched_text.specs.declared.event.Event.TheVariants as line
use Rattle.sim_clients.specs.Standing.{Kept, Stand, taken_at}
use Rattle.sim_clients.specs.Told.{TellsRefusal}
use Rattle.sim_clients.specs.declared.fault.SeatFault.{SeatFault}
use Rattle.world_rules.specs.Ends.{comes_to_owner, comes_up}
use Rattle.world_rules.specs.Refusals.{Refusal, at_client, nothing_more, opened}
use Rattle.world_rules.specs.Setting.{Setting}
use Rattle.world_rules.specs.World.{Seat, World as Rules, counted, owner}
use Rattle.sim_server.specs.Hosts.{Host, Stands as HostStands}
use Rattle.sim_server.specs.Made.{GoesDown, GoesUp}
use Rattle.sim_world.specs.Told.{Steps, Tells, step_fault}
use Rattle.sim_world.specs.Worlds.{Stands, World}
use Rattle.sim_world.specs.declared.fault.StepFault.{StepFault}
use Rattle.sim_world.proofs.Give.{came-down, came-up, kept-packet, packet-free, taken, untold}
use Rattle.sim_world.proofs.Owners.{owner-seated}
use Rattle.sim_world.proofs.Steps.{does, redrawn, refuses, tells-as}

-- up to the server
pub gives-up : {S V D : Type 0} (setting : Setting D V) (before after : Host S V) (old draw : D) (seats : List Kept) (number : ℕ) (bytes : List ℕ) (world : Rules D V)
    → Stands setting (record { host = before; seats = seats; draw = old }) world → Some (GoesUp bytes) ≡ counted number before.bag
    → HostStands setting after draw (comes_up setting bytes world)
    → Steps setting world (line.Give number) (Ok (tt {0})) (record { host = after; seats = seats; draw = draw })
gives-up {S} {V} {D} setting before after old draw seats number bytes world stands there done =
    let kept : World S V D = record { host = after; seats = seats; draw = draw } in
    let told = sym (kept-packet setting before old world number stands.host) ∙ sym there in
    does setting world (line.Give number) (tt {0}) kept (packet-free setting before old world number (GoesUp bytes) stands.host there)
    (subst (λ w. Stands setting kept w) (sym (came-up setting world bytes (counted number world.bag) told)) (record { host = done; seats = stands.seats }))

-- down, where no client has or had its session number
pub gives-nobody : {S V D : Type 0} (setting : Setting D V) (kept : World S V D) (number session : ℕ) (bytes : List ℕ) (world : Rules D V)
    → Stands setting kept world → Some (GoesDown session bytes) ≡ counted number kept.host.bag → None ≡ owner session world.seats
    → Steps setting world (line.Give number) (Ok (tt {0})) kept
gives-nobody setting kept number session bytes world stands there nobody =
    let told = sym (kept-packet setting kept.host kept.draw world number stands.host) ∙ sym there in
    let goes = came-down setting world session bytes (counted number world.bag) told
    ∙ ap (λ (found : Option ℕ). comes_to_owner setting bytes found world) (sym nobody) in
    does setting world (line.Give number) (tt {0}) kept (packet-free setting kept.host kept.draw world number (GoesDown session bytes) stands.host there)
    (subst (λ w. Stands setting kept w) (sym goes) stands)

-- down, to the client that has or had it
pub gives-down : {S V D : Type 0} (setting : Setting D V) (host : Host S V) (draw : D) (before after : List Kept) (number session client : ℕ) (bytes : List ℕ) (world : Rules D V)
    → Stands setting (record { host = host; seats = before; draw = draw }) world → Some (GoesDown session bytes) ≡ counted number host.bag
    → Some client ≡ owner session world.seats
    → ((one : Seat) → counted client world.seats ≡ Some one → Stand after (taken_at setting.opens client bytes one world.seats))
    → Steps setting world (line.Give number) (Ok (tt {0})) (record { host = host; seats = after; draw = draw })
gives-down {S} {V} {D} setting host draw before after number session client bytes world stands there owned takes =
    let kept : World S V D = record { host = host; seats = after; draw = draw } in
    let told = sym (kept-packet setting host draw world number stands.host) ∙ sym there in
    let goes = came-down setting world session bytes (counted number world.bag) told
    ∙ ap (λ (found : Option ℕ). comes_to_owner setting bytes found world) (sym owned) in
    let found = owner-seated session client world.seats (sym owned) in
    does setting world (line.Give number) (tt {0}) kept (packet-free setting host draw world number (GoesDown session bytes) stands.host there)
    (subst (λ w. Stands setting kept w) (sym goes)
    (taken setting host draw client bytes found.0 after world found.1 stands.host (takes found.0 found.1)))

-- memory runs out there
pub gives-memory : {S V D : Type 0} (X Y : Type 0) (setting : Setting D V) (host : Host S V) (draw : D) (before after : List Kept) (number session client : ℕ) (bytes : List ℕ)
    (fault : SeatFault) (world : Rules D V)
    → Stands setting (record { host = host; seats = before; draw = draw }) world → Some (GoesDown session bytes) ≡ counted number host.bag
    → Some client ≡ owner session world.seats → TellsRefusal {X = X} (at_client (counted client world.seats) nothing_more) (Err fault) → Stand after world.seats
    → Steps {X = Y} setting world (line.Give number) (Err (step_fault fault)) (record { host = host; seats = after; draw = draw })
gives-memory {S} {V} {D} X Y setting host draw before after number session client bytes fault world stands there owned refused same =
    let kept : World S V D = record { host = host; seats = after; draw = draw } in
    let found = owner-seated session client world.seats (sym owned) in
    let free = packet-free setting host draw world number (GoesDown session bytes) stands.host there in
    let none = subst (λ (one : Option Seat). TellsRefusal {X = X} (at_client one nothing_more) (Err fault)) found.1 refused in
    refuses setting world (line.Give number) (step_fault fault) kept
    (subst (λ (due : Option Refusal). Tells {X = Y} due (Err (step_fault fault))) (sym free) (tells-as X Y None fault none)) stands.host.drawn
    (record { host = redrawn setting host draw draw world stands.host; seats = same })

-- ---- what is told of a client

-- the fault of a client is the world's
pub faulty : {S V D X : Type 0} (setting : Setting D V) (world : Rules D V) (event : Event) (result : Result X StepFault) (fault : SeatFault) (after : World S V D)
    → IsErr result × IsErrAnd result (λ given. given ≡ step_fault fault) → Steps {X = X} setting world event (Err (step_fault fault)) after
    → Steps {X = X} setting world event result after
faulty {S} {V} {D} {X} setting world event (Ok done) fault after both steps = absurd (let no : false ≡ true = both.0 in cc)
faulty {S} {V} {D} {X} setting world event (Err given) fault after both steps = subst (λ one. Steps {X = X} setting world event (Err one) after) (sym both.1) steps

-- memory runs out when they are taken
pub foreign-memory : {S V D : Type 0} (X Y : Type 0) (setting : Setting D V) (host : Host S V) (draw : D) (after : List Kept) (number : ℕ) (bytes : List ℕ) (fault : SeatFault)
    (world : Rules D V) → HostStands setting host draw world → TellsRefusal {X = X} (at_client (counted number world.seats) nothing_more) (Err fault)
    → Stand after world.seats
    → Steps {X = Y} setting world (line.ForeignClient number bytes) (Err (step_fault fault)) (record { host = host; seats = after; draw = draw })
foreign-memory {S} {V} {D} X Y setting host draw after number bytes fault world stands told same =
    let kept : World S V D = record { host = host; seats = after; draw = draw } in
    refuses setting world (line.ForeignClient number bytes) (step_fault fault) kept
    (untold X Y (counted number world.seats) (opened setting number bytes) fault told) stands.drawn
    (record { host = redrawn setting host draw draw world stands; seats = same })
