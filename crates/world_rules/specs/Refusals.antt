-- Which events of a schedule are refused, and why: by the client first, then by its state, then by the rest.
use Rattle.std.specs.Prelude.{ℕ, ◌&&◌, not, nat_le, nat_lt, Bool, if◌then◌else◌, is_some, Option, Some, None, option_map, List, length}
use Rattle.msg_ids.specs.Moments.{moment_of}
use Rattle.envelope.specs.declared.parts.Dir.TheVariants.{Up, Down}
use Rattle.sched_text.specs.declared.event.Event.{Event}
use Rattle.sched_text.specs.declared.event.Event.TheVariants as line
use Rattle.call_table.specs.declared.call.CallNo.{CallNo}
use Rattle.client_rules.specs.Client.{Client, calls_of, is_open}
use Rattle.client_rules.specs.Asking.{Fault, NoSuchCall, submit_fault, has_call, can_drop}
use Rattle.client_rules.specs.Flush.{Answer, Nothing, Spent, Sends}
use Rattle.world_rules.specs.Setting.{Setting}
use Rattle.world_rules.specs.World.{World, Seat, counted, counted_job, server_now, seat_now}
use Rattle.world_rules.specs.Ends.{flushed_at}

-- why an event is refused
pub data Refusal : Type 0 where
  NoClient : Refusal
  WrongState : Refusal
  NoPacket : ℕ → Refusal
  NoJob : ℕ → Refusal
  ForeignOpens : Refusal
  Submit : Fault → Refusal
  NumbersSpent : Refusal
  NotSent : Refusal

-- most clients of a world
abbrev pub clients_max : ℕ
clients_max = 64

abbrev pub unless : Bool → Refusal → Option Refusal
unless is refusal = if is then None else Some refusal

abbrev pub first_of : Option Refusal → Option Refusal → Option Refusal
first_of None later = later
first_of (Some refusal) later = Some refusal

-- ---- the client

abbrev pub at_client : Option Seat → (Seat → Option Refusal) → Option Refusal
at_client None rest = Some NoClient
at_client (Some seat) rest = rest seat

abbrev pub by_client : {S V : Type 0} → World S V → ℕ → (Seat → Option Refusal) → Option Refusal
by_client world client rest = at_client (counted client world.seats) rest

abbrev pub nothing_more : Seat → Option Refusal
nothing_more seat = None

-- ---- its state

-- it hasn't ended
abbrev pub goes_on : Seat → (Seat → Option Refusal) → Option Refusal
goes_on seat rest = if seat.client.has_ended then Some WrongState else rest seat

-- it is open
abbrev pub is_open_now : Client → Bool
is_open_now client = is_open client && not client.has_ended

abbrev pub stands_open : Seat → (Seat → Option Refusal) → Option Refusal
stands_open seat rest = if is_open_now seat.client then rest seat else Some WrongState

-- ---- the rest

abbrev pub call_numbered : ℕ → CallNo
call_numbered n = record { n = n }

abbrev pub unsubmitted : List ℕ → Option ℕ → Seat → Option Refusal
unsubmitted body after seat = option_map Submit (submit_fault body (option_map call_numbered after) seat.client)

abbrev pub unsent : Answer → Option Refusal
unsent Spent = Some NumbersSpent
unsent _ = None

abbrev pub undropped : ℕ → Seat → Option Refusal
undropped call seat =
    first_of (unless (has_call (length (calls_of seat.client)) (call_numbered call)) (Submit NoSuchCall))
    (unless (can_drop (call_numbered call) seat.client) NotSent)

abbrev pub opened : {S V : Type 0} → Setting S V → ℕ → List ℕ → Seat → Option Refusal
opened setting client bytes seat = unless (not (is_some (setting.opens (seat_now seat) Down bytes))) ForeignOpens

-- ---- of each event

-- the refusal of an event, where it is refused
abbrev pub refusal : {S V : Type 0} → Setting S V → World S V → Event → Option Refusal
refusal setting world line.Client = unless (nat_lt (length world.seats) clients_max) NoClient
refusal setting world line.ClientTemp = unless (nat_lt (length world.seats) clients_max) NoClient
refusal setting world (line.ClockAll at) = None
refusal setting world (line.ClockServer at) = None
refusal setting world (line.ClockClient client at) = by_client world client nothing_more
refusal setting world (line.Call client body after) = by_client world client (λ seat. goes_on seat (unsubmitted body after))
refusal setting world (line.Flush client) =
    by_client world client (λ seat. goes_on seat (λ seat. unsent (flushed_at setting seat world).answer))
refusal setting world (line.Give packet) = unless (is_some (counted packet world.bag)) (NoPacket packet)
refusal setting world (line.ForeignServer bytes) =
    unless (not (is_some (setting.opens (server_now world) Up bytes))) ForeignOpens
refusal setting world (line.ForeignClient client bytes) = by_client world client (opened setting client bytes)
refusal setting world (line.Work job) = unless (is_some (counted_job job world)) (NoJob job)
refusal setting world line.TickServer = None
refusal setting world (line.TickClient client) = by_client world client (λ seat. stands_open seat nothing_more)
refusal setting world (line.AttachServer client) = by_client world client nothing_more
refusal setting world (line.AttachClient client) = by_client world client (λ seat. goes_on seat nothing_more)
refusal setting world (line.Ping client) = by_client world client (λ seat. stands_open seat nothing_more)
refusal setting world (line.Salts client count) = by_client world client (λ seat. stands_open seat nothing_more)
refusal setting world (line.DropAnswer client call) = by_client world client (λ seat. stands_open seat (undropped call))
refusal setting world (line.Renew client) = by_client world client (λ seat. stands_open seat nothing_more)
refusal setting world (line.End client) = by_client world client (λ seat. stands_open seat nothing_more)
refusal setting world (line.Lose client) = by_client world client nothing_more
refusal setting world line.Restart = None
