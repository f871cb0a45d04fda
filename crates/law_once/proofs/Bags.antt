-- The packets of a world stay.
use Rattle.std.proofs.Common.{ℕ, zero, suc, Option, None, Some, List, [], ◌∷◌, ◌++◌}
use Rattle.std.specs.Prelude.{option_map}
use Rattle.std.specs.List.{AllByRecursion}
use Rattle.std.proofs.lemmas.Bool.{cond_both}
use Rattle.msg_ids.specs.Moments.{moment_of}
use Rattle.envelope.specs.declared.parts.Dir.{Dir}
use Rattle.envelope.specs.declared.parts.Dir.TheVariants.{Up, Down}
use Rattle.sched_text.specs.declared.event.Event.{Event}
use Rattle.sched_text.specs.declared.event.Event.TheVariants as line
use Rattle.server_rules.specs.Events.{Attach, Event as ServerEvent, Loss, Packet as Comes, Restart, Tick, Work}
use Rattle.client_rules.specs.Events as wishes
use Rattle.world_rules.specs.Setting.{Setting, as_heard}
use Rattle.world_rules.specs.World.{Packet, Seat, World, bytes_of, counted, owner, seat_now, server_now}
use Rattle.world_rules.specs.Ends.{acts, arrives, comes_down, comes_to_owner, comes_up, flushes, goes, seated, serves, with_seat}
use Rattle.world_rules.specs.Refusals.{call_numbered}
use Rattle.world_rules.specs.Run.{after, present_name, wishes_so, works}

front : {X : Type 0} (P : X → Type 0) (xs ys : List X) → AllByRecursion P (xs ++ ys) → AllByRecursion P xs
front P [] ys h = tt
front P (x ∷ xs) ys h = (h.0, front P xs ys h.1)

module _ {S V : Type 0} (P : Packet → Type 0) (setting : Setting S V) (world : World S V) where
  -- what all packets have behind the event, they had before
  abbrev Back : World S V → Type 0
  Back behind = AllByRecursion P behind.bag → AllByRecursion P world.bag

  sat : (found : Option Seat) (act : Seat → World S V → World S V) → ((seat : Seat) → Back (act seat world)) → Back (seated found act world)
  sat None act so h = h
  sat (Some seat) act so h = so seat h

  served : (event : ServerEvent) → Back (serves setting event world)
  served event h = front P world.bag _ h

  wished : (number : ℕ) (wish : wishes.Event) → Back (wishes_so setting number wish world)
  wished number wish = sat (counted number world.seats) (λ seat. acts setting number seat wish) (λ seat h. h)

  came_down : (number : ℕ) (bytes : List ℕ) (seat : Seat) → Back (comes_down setting number bytes seat world)
  came_down number bytes seat =
      cond_both seat.client.has_ended world (acts setting number seat (wishes.Take (moment_of seat.clock) (setting.opens (seat_now seat) Down bytes)) world) Back
      (λ over h. h) (λ on h. h)

  at_number : (number : ℕ) (bytes : List ℕ) → Back (with_seat number (comes_down setting number bytes) world)
  at_number number bytes = sat (counted number world.seats) (comes_down setting number bytes) (came_down number bytes)

  to_owner : (bytes : List ℕ) (number : Option ℕ) → Back (comes_to_owner setting bytes number world)
  to_owner bytes None h = h
  to_owner bytes (Some number) h = at_number number bytes h

  came_up : (bytes : List ℕ) → Back (comes_up setting bytes world)
  came_up bytes = served (Comes world.clock (option_map as_heard (setting.opens (server_now world) Up bytes)))

  went : (packet : Packet) (dir : Dir) → Back (goes setting packet dir world)
  went packet Up = came_up (bytes_of setting packet)
  went packet Down = to_owner (bytes_of setting packet) (owner packet.envelope.session world.seats)

  arrived : (found : Option Packet) → Back (arrives setting found world)
  arrived None h = h
  arrived (Some packet) h = went packet packet.dir h

  worked_at : (place : ℕ) → Back (works setting place world)
  worked_at zero h = h
  worked_at (suc place) h = served (Work world.clock place) h

  pub packets_stay : (event : Event) → Back (after setting world event)
  packets_stay line.Client h = h
  packets_stay line.ClientTemp h = h
  packets_stay (line.ClockAll moment) h = h
  packets_stay (line.ClockServer moment) h = h
  packets_stay (line.ClockClient client moment) h = h
  packets_stay (line.Call client body earlier) h = wished client (wishes.Submit body (option_map call_numbered earlier)) h
  packets_stay (line.Flush client) h = sat (counted client world.seats) (flushes setting client) (λ seat k. front P world.bag _ k) h
  packets_stay (line.Give packet) h = arrived (counted packet world.bag) h
  packets_stay (line.ForeignServer bytes) h = came_up bytes h
  packets_stay (line.ForeignClient client bytes) h = at_number client bytes h
  packets_stay (line.Work job) h = worked_at job h
  packets_stay line.TickServer h = served (Tick world.clock) h
  packets_stay (line.TickClient client) h = wished client wishes.Tick h
  packets_stay (line.AttachServer client) h =
      sat (counted client world.seats) (λ seat. serves setting (Attach world.clock (present_name seat))) (λ seat. served (Attach world.clock (present_name seat))) h
  packets_stay (line.AttachClient client) h = wished client wishes.Attach h
  packets_stay (line.Ping client) h = wished client (wishes.Ping 1) h
  packets_stay (line.Salts client count) h = wished client (wishes.AskSalts count) h
  packets_stay (line.DropAnswer client call) h = wished client (wishes.Drop (call_numbered call)) h
  packets_stay (line.Renew client) h = wished client wishes.Renew h
  packets_stay (line.End client) h = wished client wishes.End h
  packets_stay (line.Lose client) h = sat (counted client world.seats) (λ seat. serves setting (Loss (present_name seat))) (λ seat. served (Loss (present_name seat))) h
  packets_stay line.Restart h = served Restart h
