-- What each event of a schedule does to a world, and the world after all of them.
use Rattle.std.specs.Prelude.{ℕ, zero, suc, Bool, true, false, if◌then◌else◌, is_some, Option, Some, None, option_map, List, [], ◌∷◌, ◌++◌, fold, map}
use Rattle.draws.specs.Draws.{draw_after, word_after}
use Rattle.envelope.specs.declared.parts.Dir.TheVariants.{Up, Down}
use Rattle.sched_text.specs.declared.event.Event.{Event}
use Rattle.sched_text.specs.declared.event.Event.TheVariants as line
use Rattle.sched_text.specs.declared.schedule.Placed.{Placed}
use Rattle.server_rules.specs.Server.{Name}
use Rattle.server_rules.specs.Events.{Work, Tick, Attach, Loss, Restart}
use Rattle.client_rules.specs.Client.{Client, Temporary, temporary_of}
use Rattle.client_rules.specs.Events as wishes
use Rattle.world_rules.specs.Setting.{Setting, at_client}
use Rattle.world_rules.specs.World.{World, Seat, counted, changed_at, begins}
use Rattle.world_rules.specs.Ends.{serves, acts, flushes, comes_up, comes_down, with_seat, arrives}
use Rattle.world_rules.specs.Refusals.{ForeignOpens, Refusal, call_numbered, refusal}

-- ---- one event

-- a client joins, its clock at 0, under a permanent key, or a temporary one with what it is bound to
abbrev pub joins : {S V : Type 0} → Setting S V → ℕ → Option Temporary → World S V → World S V
joins setting key temporary world =
    let made = wishes.made (at_client setting) key temporary world.draw in
    record world { seats = world.seats ++ record { client = made.client; clock = 0 } ∷ []; draw = made.draw }

-- clocks are set
abbrev pub set : ℕ → Seat → Seat
set at seat = record seat { clock = at }

-- a client does as its user wishes
abbrev pub wishes_so : {S V : Type 0} → Setting S V → ℕ → wishes.Event → World S V → World S V
wishes_so setting client wish world = with_seat client (λ seat. acts setting client seat wish) world

-- a client's present session at the server
abbrev pub present_name : Seat → Name
present_name seat = record { key = seat.client.key; session = seat.client.session }

-- the ready job of this number runs
abbrev pub works : {S V : Type 0} → Setting S V → ℕ → World S V → World S V
works setting zero world = world
works setting (suc place) world = serves setting (Work world.clock place) world

-- the world after an event that isn't refused
abbrev pub after : {S V : Type 0} → Setting S V → World S V → Event → World S V
after setting world line.Client = joins setting setting.keys.permanent None world
after setting world line.ClientTemp =
    joins setting setting.keys.temporary (Some (temporary_of setting.keys.permanent setting.keys.expires)) world
after setting world (line.ClockAll at) = record world { clock = at; seats = map (set at) world.seats }
after setting world (line.ClockServer at) = record world { clock = at }
after setting world (line.ClockClient client at) = record world { seats = changed_at client (set at) world.seats }
after setting world (line.Call client body earlier) =
    wishes_so setting client (wishes.Submit body (option_map call_numbered earlier)) world
after setting world (line.Flush client) = with_seat client (flushes setting client) world
after setting world (line.Give packet) = arrives setting (counted packet world.bag) world
after setting world (line.ForeignServer bytes) = comes_up setting bytes world
after setting world (line.ForeignClient client bytes) = with_seat client (comes_down setting client bytes) world
after setting world (line.Work job) = works setting job world
after setting world line.TickServer = serves setting (Tick world.clock) world
after setting world (line.TickClient client) = wishes_so setting client wishes.Tick world
after setting world (line.AttachServer client) =
    with_seat client (λ seat. serves setting (Attach world.clock (present_name seat))) world
after setting world (line.AttachClient client) = wishes_so setting client wishes.Attach world
after setting world (line.Ping client) = wishes_so setting client (wishes.Ping 1) world
after setting world (line.Salts client count) = wishes_so setting client (wishes.AskSalts count) world
after setting world (line.DropAnswer client call) = wishes_so setting client (wishes.Drop (call_numbered call)) world
after setting world (line.Renew client) = wishes_so setting client wishes.Renew world
after setting world (line.End client) = wishes_so setting client wishes.End world
after setting world (line.Lose client) = with_seat client (λ seat. serves setting (Loss (present_name seat))) world
after setting world line.Restart =
    let again = serves setting Restart world in record again { start = suc world.start }

-- one event: where it is refused, nothing changes
abbrev pub step : {S V : Type 0} → Setting S V → World S V → Event → World S V
step setting world event = if is_some (refusal setting world event) then world else after setting world event

-- a refusal that an event meets wherever it comes, and not in a schedule alone
abbrev pub is_in_the_way : Option Refusal → Bool
is_in_the_way None = false
is_in_the_way (Some ForeignOpens) = false
is_in_the_way (Some refusal) = true

-- one event where foreign bytes that open are taken like any packet, as over a network
abbrev pub step_any : {S V : Type 0} → Setting S V → World S V → Event → World S V
step_any setting world event = if is_in_the_way (refusal setting world event) then world else after setting world event

-- ---- all events

abbrev pub run_from : {S V : Type 0} → Setting S V → World S V → List Event → World S V
run_from setting world events = fold (step setting) world events

abbrev pub run_of : {S V : Type 0} → Setting S V → S → List Event → World S V
run_of setting draw events = run_from setting (begins setting draw) events

-- all events, foreign bytes taken like packets
abbrev pub run_of_any : {S V : Type 0} → Setting S V → S → List Event → World S V
run_of_any setting draw events = fold (step_any setting) (begins setting draw) events

-- the events of a schedule, without their lines
abbrev pub events_of : List Placed → List Event
events_of placed = map (λ one. one.event) placed

abbrev pub first_refused_of : ℕ → Option Refusal → Option (ℕ × Refusal) → Option (ℕ × Refusal)
first_refused_of line None later = later
first_refused_of line (Some refusal) later = Some (line, refusal)

-- the first event that is refused, by the number of its line, with its refusal
abbrev pub first_refused : {S V : Type 0} → Setting S V → World S V → List Placed → Option (ℕ × Refusal)
first_refused setting world [] = None
first_refused setting world (one ∷ placed) =
    first_refused_of one.line (refusal setting world one.event) (first_refused setting (step setting world one.event) placed)
