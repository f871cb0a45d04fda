-- A large schedule: many calls of one client, each settled, with restarts and repeats.
use Rattle.std.specs.Prelude.{ℕ, zero, suc, ◌+◌, ◌*◌, ◌%◌, ◌==◌, Bool, true, false, if◌then◌else◌, is_some, Option, Some, None, List, [], ◌∷◌, ◌++◌, codes, length, map}
use Rattle.std.specs.List.{list_any}
use Rattle.sched_text.specs.declared.event.Event.{Event}
use Rattle.sched_text.specs.declared.event.Event.TheVariants as line
use Rattle.sched_text.specs.Bodies.{add_body}
use Rattle.client_rules.specs.Flush.{Answer, Nothing, Spent, Sends}
use Rattle.world_rules.specs.Setting.{Setting}
use Rattle.world_rules.specs.World.{World, Seat, counted, counted_job, begins}
use Rattle.world_rules.specs.Ends.{flushed_at}
use Rattle.world_rules.specs.Run.{step, run_from}

-- a world, and the numbers of the packets that were given so far
pub record Settling (S V : Type 0) : Type 0 where
  pub world : World S V
  pub given : List ℕ

-- how often a settling goes on at most
abbrev pub settling_max : ℕ
settling_max = 4096

abbrev pub sends : Answer → Bool
sends (Sends packet) = true
sends _ = false

abbrev pub can_flush : {S V : Type 0} → Setting S V → Option Seat → World S V → Bool
can_flush setting None world = false
can_flush setting (Some seat) world = sends (flushed_at setting seat world).answer

abbrev pub does : {S V : Type 0} → Setting S V → Event → Settling S V → Settling S V
does setting event settling = record settling { world = step setting settling.world event }

-- the first of so many packets, counted on from this number, that was never given
abbrev pub first_ungiven : ℕ → ℕ → List ℕ → Option ℕ
first_ungiven number zero given = None
first_ungiven number (suc n) given =
    if list_any (λ other. other == number) given then first_ungiven (suc number) n given else Some number

-- a packet comes
abbrev pub gives : {S V : Type 0} → Setting S V → ℕ → Settling S V → Settling S V
gives setting packet settling = record (does setting (line.Give packet) settling) { given = settling.given ++ packet ∷ [] }

abbrev pub next_by : {S V : Type 0} → Option ℕ → Option (Settling S V) → Setting S V → Settling S V → Option (Settling S V)
next_by None other setting settling = other
next_by (Some packet) other setting settling = Some (gives setting packet settling)

-- the first of these that can be done: the first packet that was never given comes, the first ready job runs, the client
-- flushes
abbrev pub next_step : {S V : Type 0} → Setting S V → Settling S V → Option (Settling S V)
next_step setting settling =
    next_by (first_ungiven 1 (length settling.world.bag) settling.given)
    (if is_some (counted_job 1 settling.world) then Some (does setting (line.Work 1) settling)
    else if can_flush setting (counted 1 settling.world.seats) settling.world then Some (does setting (line.Flush 1) settling)
    else None) setting settling

abbrev pub goes_on : {S V : Type 0} → Setting S V → ℕ → Settling S V → Option (Settling S V) → Settling S V
goes_on setting zero settling next = settling
goes_on setting (suc n) settling None = settling
goes_on setting (suc n) settling (Some next) = goes_on setting n next (next_step setting next)

-- until none can be done, cut after so many steps
abbrev pub settled : {S V : Type 0} → Setting S V → Settling S V → Settling S V
settled setting settling = goes_on setting settling_max settling (next_step setting settling)

-- `add x 1`
abbrev pub call_of_load : Event
call_of_load = line.Call 1 (add_body (codes "x") 1) None

-- each hundredth time the client flushes and the server starts again
abbrev pub restarts : {S V : Type 0} → Setting S V → ℕ → Settling S V → Settling S V
restarts setting i settling =
    if i % 100 == 0 then does setting line.Restart (does setting (line.Flush 1) settling) else settling

-- each third time a packet comes again
abbrev pub repeats : {S V : Type 0} → Setting S V → ℕ → Settling S V → Settling S V
repeats setting i settling =
    if i % 3 == 0
    then settled setting (gives setting (1 + (7 * i) % length settling.world.bag) settling)
    else settling

abbrev pub round : {S V : Type 0} → Setting S V → ℕ → Settling S V → Settling S V
round setting i settling = repeats setting i (settled setting (restarts setting i (does setting call_of_load settling)))

-- so many rounds, the first of which has the number 1
abbrev pub rounds : {S V : Type 0} → Setting S V → ℕ → Settling S V → Settling S V
rounds setting zero settling = settling
rounds setting (suc n) settling = round setting (suc n) (rounds setting n settling)

-- the world after the schedule of this many calls
abbrev pub load : {S V : Type 0} → Setting S V → S → ℕ → World S V
load setting draw calls =
    (rounds setting calls (does setting line.Client (record { world = begins setting draw; given = [] }))).world
