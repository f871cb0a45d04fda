-- What a world keeps of the order of calls.
use Rattle.std.specs.Prelude.{◌≡◌, ℕ, true, Some, List, ◌∷◌, ◌++◌, map, slice_get}
use Rattle.std.specs.List.{AllByRecursion, Contains, list_any}
use Rattle.envelope.specs.declared.parts.Dir.TheVariants.{Up}
use Rattle.server_rules.specs.Event.{Entry}
use Rattle.call_table.specs.Table.{Call, Name}
use Rattle.client_rules.specs.Client.{Client, calls_of}
use Rattle.law_order.specs.After.{AreInTurn, IsPacketFor, Pair}
use Rattle.law_order.specs.Behind.{KeepsTurn}
use Rattle.law_order.specs.Going.{IsPacketFrom}
use Rattle.world_rules.specs.Setting.{as_heard}
use Rattle.world_rules.specs.World.{Entered, Packet, Seat, World}
use Rattle.world_rules.specs.Once.{IsCallOf, IsEarlierCall, RanWell, is_entry_under}
use Rattle.law_once.specs.Made.{IsShort}

-- ---- clients

-- each client's calls are in turn
abbrev pub AreTurning : List Seat → Type 0
AreTurning seats = AllByRecursion (λ seat. KeepsTurn seat.client) seats

-- a packet up has calls of some client as they went
pub record IsFromSeat (seats : List Seat) (packet : Packet) : Type 0 where
  pub seat : Seat
  pub place : ℕ
  pub there : slice_get seats place ≡ Some seat
  pub from : IsPacketFrom (calls_of seat.client) packet.envelope

abbrev pub IsUpFrom : List Seat → Packet → Type 0
IsUpFrom seats packet = packet.dir ≡ Up → IsFromSeat seats packet

-- ---- the server

abbrev pub entries_in : {S V : Type 0} → World S V → List Entry
entries_in world = map (λ entered. entered.entry) world.entries

-- each packet up that may open has the two messages so
abbrev pub ArePacketsFor : Pair → List Packet → Type 0
ArePacketsFor pair bag = AllByRecursion (λ packet. packet.dir ≡ Up → IsShort packet.envelope → IsPacketFor pair (as_heard packet.envelope)) bag

-- where all packets up are for a pair, the server has it in turn
abbrev pub IsServedInTurn : {S V : Type 0} → World S V → Type 0
IsServedInTurn world = (pair : Pair) → ArePacketsFor pair world.bag → AreInTurn pair world.server.sessions world.server.jobs (entries_in world)

-- ---- a world

pub record KeepsOrder {S V : Type 0} (world : World S V) : Type 0 where
  pub clients : AreTurning world.seats
  pub bag : AllByRecursion (IsUpFrom world.seats) world.bag
  pub served : IsServedInTurn world

-- ---- calls that wait

-- An entry that ran under a name of a call that went behind a number, of a call with an earlier call, stands behind an entry of
-- that earlier call that ran well.
abbrev pub WaitingInOrder : {S V : Type 0} → World S V → Type 0
WaitingInOrder world =
    (number place : ℕ) (client : Client) (call earlier : Call) (before behind : List Entered) (entered : Entered) (name : Name) (wrap : ℕ)
    → IsCallOf world number place client call
    → IsEarlierCall client call earlier
    → world.entries ≡ before ++ entered ∷ behind
    → Contains call.names name
    → name.message.wrap ≡ Some wrap
    → is_entry_under client name entered ≡ true
    → entered.entry.ran ≡ true
    → (first : Entered) × Contains before first × (list_any (λ name. is_entry_under client name first) earlier.names ≡ true) × RanWell first
