-- Scaffolding, and no promise: what holds of every client of a load. No call of it is to execute after another one, its key
-- is a permanent one, and its clock stands at 0. So a flush that sends nothing leaves it as it was.
use Rattle.std.specs.Prelude.{◌≡◌, ℕ, None, List, ⊤}
use Rattle.std.specs.List.{AllByRecursion}
use Rattle.sched_text.specs.declared.event.Event.{Event}
use Rattle.sched_text.specs.declared.event.Event.TheVariants as line
use Rattle.call_table.specs.Table.{Call}
use Rattle.client_rules.specs.Client.{Client, calls_of}
use Rattle.world_rules.specs.World.{Seat, World}

abbrev pub FollowsNone : Call → Type 0
FollowsNone call = call.after ≡ None

pub record IsPlain (client : Client) : Type 0 where
  pub key : client.temporary ≡ None
  pub calls : AllByRecursion FollowsNone (calls_of client)

pub record IsPlainSeat (seat : Seat) : Type 0 where
  pub client : IsPlain seat.client
  pub clock : seat.clock ≡ 0

abbrev pub ArePlain : {S V : Type 0} → World S V → Type 0
ArePlain world = AllByRecursion IsPlainSeat world.seats

-- an event of a load
abbrev pub IsOfLoad : Event → Type 0
IsOfLoad line.Client = ⊤
IsOfLoad (line.Call client body after) = after ≡ None
IsOfLoad (line.Flush client) = ⊤
IsOfLoad (line.Give packet) = ⊤
IsOfLoad (line.Work job) = ⊤
IsOfLoad line.Restart = ⊤
IsOfLoad _ = ⊥
