-- The events that clients have by themselves, in a world.
use Rattle.std.proofs.Common.{◌≡◌, ℕ, zero, suc, [], Option, Some, None, refl}
use Rattle.std.specs.Prelude.{option_map, slice_get}
use Rattle.sched_text.specs.declared.event.Event.{Event}
use Rattle.sched_text.specs.declared.event.Event.TheVariants as line
use Rattle.law_moves.specs.World.{World as Moved}
use Rattle.client_rules.specs.Events as wishes
use Rattle.world_rules.specs.Setting.{Setting}
use Rattle.world_rules.specs.World.{Seat, World}
use Rattle.world_rules.specs.Ends.{acts, flushes, seated, with_seat}
use Rattle.world_rules.specs.Premises.{names_drawn}
use Rattle.world_rules.specs.Refusals.{call_numbered}
use Rattle.world_rules.specs.Run.{after, wishes_so}
use Rattle.law_once.proofs.Acting.{IsOfClients}
use Rattle.law_once.specs.Standing.{MovesOn, WorldStands}
use Rattle.law_once.proofs.Counting.{AreFresh}
use Rattle.law_once.proofs.Known.{Moving, Still}
use Rattle.law_once.proofs.Clients.{Acts, Flushes, ServersStill, asked_so, attached_so, dropped_so, ended_so, flushed_so, pinged_so, renewed_so, submitted_so, ticked_so}
use Rattle.law_once.proofs.Joined.{all_clocks, client_clock, joined_so, joined_temporary, server_clock}

module _ {S V : Type 0} (known : Moving) (still : Still) (servers : ServersStill S V) (acts_so : Acts) (flushes_so : Flushes S) (setting : Setting S V) (w : Moved) (world : World S V)
    (h : WorldStands w world) where
  -- the client of a number does so, where there is one
  pub sat : (found : Option Seat) (act : Seat → World S V → World S V) → ((seat : Seat) → found ≡ Some seat → MovesOn w (act seat world)) → MovesOn w (seated found act world)
  sat None act so = ([], tt, h)
  sat (Some seat) act so = so seat refl

  wished : (number : ℕ) (wish : wishes.Event) → ((place : ℕ) (seat : Seat) → slice_get world.seats place ≡ Some seat → MovesOn w (acts setting (suc place) seat wish world))
      → MovesOn w (wishes_so setting number wish world)
  wished zero wish so = ([], tt, h)
  wished (suc place) wish so = sat (slice_get world.seats place) (λ seat. acts setting (suc place) seat wish) (so place)

  renewed_by : (place : ℕ) (found : Option Seat) → slice_get world.seats place ≡ found → AreFresh (names_drawn (seated found (λ seat. acts setting (suc place) seat wishes.Renew) world))
      → MovesOn w (seated found (λ seat. acts setting (suc place) seat wishes.Renew) world)
  renewed_by place None is fresh = ([], tt, h)
  renewed_by place (Some seat) is fresh = renewed_so known still servers w world h place seat is acts_so setting fresh

  renewed_at : (number : ℕ) → AreFresh (names_drawn (wishes_so setting number wishes.Renew world)) → MovesOn w (wishes_so setting number wishes.Renew world)
  renewed_at zero fresh = ([], tt, h)
  renewed_at (suc place) fresh = renewed_by place (slice_get world.seats place) refl fresh

  flushed_at : (number : ℕ) → MovesOn w (with_seat number (flushes setting number) world)
  flushed_at zero = ([], tt, h)
  flushed_at (suc place) = sat (slice_get world.seats place) (flushes setting (suc place)) (λ seat is. flushed_so known still servers w world h place seat is flushes_so setting)

  pub by_themselves : (event : Event) → IsOfClients event → AreFresh (names_drawn (after setting world event)) → MovesOn w (after setting world event)
  by_themselves line.Client of fresh = joined_so known still servers acts_so setting w world h setting.keys.permanent fresh
  by_themselves line.ClientTemp of fresh = joined_temporary known still servers acts_so setting w world h setting.keys.temporary setting.keys.permanent setting.keys.expires fresh
  by_themselves (line.ClockAll moment) of fresh = all_clocks known w world h moment
  by_themselves (line.ClockServer moment) of fresh = server_clock known w world h moment
  by_themselves (line.ClockClient client moment) of fresh = client_clock known w world h client moment
  by_themselves (line.Call client body earlier) of fresh =
      wished client (wishes.Submit body (option_map call_numbered earlier))
      (λ place seat is. submitted_so known still servers w world h place seat is acts_so setting body (option_map call_numbered earlier))
  by_themselves (line.Flush client) of fresh = flushed_at client
  by_themselves (line.Give packet) of fresh = absurd of
  by_themselves (line.ForeignServer bytes) of fresh = absurd of
  by_themselves (line.ForeignClient client bytes) of fresh = absurd of
  by_themselves (line.Work job) of fresh = absurd of
  by_themselves line.TickServer of fresh = absurd of
  by_themselves (line.TickClient client) of fresh = wished client wishes.Tick (λ place seat is. ticked_so known still servers w world h place seat is acts_so setting)
  by_themselves (line.AttachServer client) of fresh = absurd of
  by_themselves (line.AttachClient client) of fresh = wished client wishes.Attach (λ place seat is. attached_so known still servers w world h place seat is acts_so setting)
  by_themselves (line.Ping client) of fresh = wished client (wishes.Ping 1) (λ place seat is. pinged_so known still servers w world h place seat is acts_so setting 1)
  by_themselves (line.Salts client count) of fresh = wished client (wishes.AskSalts count) (λ place seat is. asked_so known still servers w world h place seat is acts_so setting count)
  by_themselves (line.DropAnswer client call) of fresh =
      wished client (wishes.Drop (call_numbered call)) (λ place seat is. dropped_so known still servers w world h place seat is acts_so setting (call_numbered call))
  by_themselves (line.Renew client) of fresh = renewed_at client fresh
  by_themselves (line.End client) of fresh = wished client wishes.End (λ place seat is. ended_so known still servers w world h place seat is acts_so setting)
  by_themselves (line.Lose client) of fresh = absurd of
  by_themselves line.Restart of fresh = absurd of
