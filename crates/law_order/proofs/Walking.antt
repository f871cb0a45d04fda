-- What holds behind each event of a world, by the kind of the event.
use Rattle.std.proofs.Common.{◌≡◌, zero, suc, ℕ, Option, Some, None, List, [], refl}
use Rattle.std.specs.Prelude.{⊤, IfSome, map, option_map}
use Rattle.std.proofs.lemmas.Bool.{cond_both}
use Rattle.envelope.specs.declared.parts.Dir.{Dir}
use Rattle.envelope.specs.declared.parts.Dir.TheVariants.{Up, Down}
use Rattle.msg_ids.specs.Moments.{moment_of}
use Rattle.sched_text.specs.declared.event.Event.{Event}
use Rattle.sched_text.specs.declared.event.Event.TheVariants as line
use Rattle.server_rules.specs.Events.{Attach, Event as ServerEvent, Loss, Packet as Comes, Tick, Work}
use Rattle.client_rules.specs.Client.{Temporary, temporary_of}
use Rattle.client_rules.specs.Events as wishes
use Rattle.law_order.specs.Given.{IsAskedAmong}
use Rattle.world_rules.specs.Setting.{Setting}
use Rattle.world_rules.specs.World.{Packet, Seat, World, bytes_of, changed_at, counted, owner, seat_now}
use Rattle.world_rules.specs.Ends.{acts, arrives, comes_down, comes_to_owner, comes_up, flushes, goes, seated, serves, with_seat}
use Rattle.world_rules.specs.Run.{after, joins, present_name, set, wishes_so, works}
use Rattle.world_rules.specs.Refusals.{call_numbered}

-- no packet's event
abbrev pub IsNoPacket : ServerEvent → Type 0
IsNoPacket (Comes moment envelope) = ⊥
IsNoPacket event = ⊤

-- no flush, whose packet joins the bag
abbrev pub IsWish : wishes.Event → Type 0
IsWish (wishes.Flush now) = ⊥
IsWish _ = ⊤

-- nothing was asked for a temporary key yet
abbrev pub IsIdle : Option Temporary → Type 0
IsIdle temporary = IfSome temporary (λ temporary. IsAskedAmong [] temporary.binding)

-- what each kind of event leaves, where bytes that come to the server are such
pub record Walk (S V : Type 0) (setting : Setting S V) (world : World S V) (P : World S V → Type 0) (Opened : List ℕ → Type 0) : Type 0 where
  pub still : P world
  pub joined : (key : ℕ) (temporary : Option Temporary) → IsIdle temporary → P (joins setting key temporary world)
  pub all_set : (moment : ℕ) → P (record world { clock = moment; seats = map (set moment) world.seats })
  pub server_set : (moment : ℕ) → P (record world { clock = moment })
  pub one_set : (number moment : ℕ) → P (record world { seats = changed_at number (set moment) world.seats })
  pub acted : (number : ℕ) (seat : Seat) → counted number world.seats ≡ Some seat → (wish : wishes.Event) → IsWish wish → P (acts setting number seat wish world)
  pub flushed : (number : ℕ) (seat : Seat) → counted number world.seats ≡ Some seat → P (flushes setting number seat world)
  pub served : (event : ServerEvent) → IsNoPacket event → P (serves setting event world)
  pub again : P (after setting world line.Restart)
  pub came : (bytes : List ℕ) → Opened bytes → P (comes_up setting bytes world)

-- of the bytes that an event brings to the server
abbrev pub AreOpened : {S V : Type 0} → Setting S V → World S V → (List ℕ → Type 0) → Event → Type 0
AreOpened setting world Opened (line.Give number) =
    (packet : Packet) → counted number world.bag ≡ Some packet → packet.dir ≡ Up → Opened (bytes_of setting packet)
AreOpened setting world Opened (line.ForeignServer bytes) = Opened bytes
AreOpened setting world Opened _ = Unit {0}

module _ {S V : Type 0} (setting : Setting S V) (world : World S V) (P : World S V → Type 0) (Opened : List ℕ → Type 0) (walk : Walk S V setting world P Opened) where
  sat : (number : ℕ) (act : Seat → World S V → World S V) → ((seat : Seat) → counted number world.seats ≡ Some seat → P (act seat world)) → P (with_seat number act world)
  sat number act so = go (counted number world.seats) refl where
    go : (found : Option Seat) → counted number world.seats ≡ found → P (seated found act world)
    go None is = walk.still
    go (Some seat) is = so seat is

  wished : (number : ℕ) (wish : wishes.Event) → IsWish wish → P (wishes_so setting number wish world)
  wished number wish is_wish = sat number (λ seat. acts setting number seat wish) (λ seat is. walk.acted number seat is wish is_wish)

  down : (number : ℕ) (bytes : List ℕ) → P (with_seat number (comes_down setting number bytes) world)
  down number bytes =
      sat number (comes_down setting number bytes)
      (λ seat is.
      cond_both seat.client.has_ended world (acts setting number seat (wishes.Take (moment_of seat.clock) (setting.opens (seat_now seat) Down bytes)) world) P
      (λ over. walk.still) (λ on. walk.acted number seat is (wishes.Take (moment_of seat.clock) (setting.opens (seat_now seat) Down bytes)) tt))

  to_owner : (bytes : List ℕ) (found : Option ℕ) → P (comes_to_owner setting bytes found world)
  to_owner bytes None = walk.still
  to_owner bytes (Some number) = down number bytes

  went : (packet : Packet) (dir : Dir) → packet.dir ≡ dir → (packet.dir ≡ Up → Opened (bytes_of setting packet)) → P (goes setting packet dir world)
  went packet Up is opened = walk.came (bytes_of setting packet) (opened is)
  went packet Down is opened = to_owner (bytes_of setting packet) (owner packet.envelope.session world.seats)

  arrived : (found : Option Packet) → ((packet : Packet) → found ≡ Some packet → packet.dir ≡ Up → Opened (bytes_of setting packet)) → P (arrives setting found world)
  arrived None opened = walk.still
  arrived (Some packet) opened = went packet packet.dir refl (opened packet refl)

  worked : (place : ℕ) → P (works setting place world)
  worked zero = walk.still
  worked (suc place) = walk.served (Work world.clock place) tt

  pub walked : (event : Event) → AreOpened setting world Opened event → P (after setting world event)
  walked line.Client opened = walk.joined setting.keys.permanent None tt
  walked line.ClientTemp opened = walk.joined setting.keys.temporary (Some (temporary_of setting.keys.permanent setting.keys.expires)) tt
  walked (line.ClockAll moment) opened = walk.all_set moment
  walked (line.ClockServer moment) opened = walk.server_set moment
  walked (line.ClockClient client moment) opened = walk.one_set client moment
  walked (line.Call client body earlier) opened = wished client (wishes.Submit body (option_map call_numbered earlier)) tt
  walked (line.Flush client) opened = sat client (flushes setting client) (λ seat is. walk.flushed client seat is)
  walked (line.Give packet) opened = arrived (counted packet world.bag) opened
  walked (line.ForeignServer bytes) opened = walk.came bytes opened
  walked (line.ForeignClient client bytes) opened = down client bytes
  walked (line.Work job) opened = worked job
  walked line.TickServer opened = walk.served (Tick world.clock) tt
  walked (line.TickClient client) opened = wished client wishes.Tick tt
  walked (line.AttachServer client) opened =
      sat client (λ seat. serves setting (Attach world.clock (present_name seat))) (λ seat is. walk.served (Attach world.clock (present_name seat)) tt)
  walked (line.AttachClient client) opened = wished client wishes.Attach tt
  walked (line.Ping client) opened = wished client (wishes.Ping 1) tt
  walked (line.Salts client count) opened = wished client (wishes.AskSalts count) tt
  walked (line.DropAnswer client call) opened = wished client (wishes.Drop (call_numbered call)) tt
  walked (line.Renew client) opened = wished client wishes.Renew tt
  walked (line.End client) opened = wished client wishes.End tt
  walked (line.Lose client) opened = sat client (λ seat. serves setting (Loss (present_name seat))) (λ seat is. walk.served (Loss (present_name seat)) tt)
  walked line.Restart opened = walk.again
