-- The clients of a world as they are kept, and those that they stand for.
use Rattle.std.specs.Prelude.{◌≡◌, ℕ, ◌↔◌, if◌then◌else◌, Option, Some, List}
use Rattle.std.specs.List.{AllByRecursion, AllZip}
use Rattle.msg_ids.specs.Moments.{moment_of}
use Rattle.auth_keys.specs.declared.ring.RingKey.{RingKey}
use Rattle.envelope.specs.declared.parts.Dir.{Dir}
use Rattle.envelope.specs.declared.parts.Dir.TheVariants.{Down}
use Rattle.envelope.specs.declared.parts.Envelope.{Envelope}
use Rattle.envelope.specs.Opening.{Opens}
use Rattle.envelope.specs.Packet.{Lock}
use Rattle.client_rules.specs.Client.{Client}
use Rattle.client_rules.specs.Events.{takes}
use Rattle.client_rules.specs.Flush.{Flushed, flush}
use Rattle.client_rules.specs.Sending.{Setting}
use Rattle.client_core.specs.Holding.{kept_of}
use Rattle.client_core.specs.Keys.{HasKeys, Keys, keys_in}
use Rattle.client_core.specs.Kept.{Stands}
use Rattle.client_core.specs.declared.holder.Holder.{Holder}
use Rattle.world_rules.specs.Ends.{seat_changed}
use Rattle.world_rules.specs.World.{Seat, counted, seat_now}

-- ---- what is kept

-- a client in its state, with its clock in seconds
pub record Kept : Type 0 where
  pub holder : Holder
  pub clock : ℕ

-- it stands for a seat of a world
pub record StandsFor (kept : Kept) (seat : Seat) : Type 0 where
  pub client : Stands (kept_of kept.holder) seat.client
  pub clock : kept.clock ≡ seat.clock

-- all stand for the seats of a world, one for one
abbrev pub Stand : List Kept → List Seat → Type 0
Stand kept seats = AllZip StandsFor kept seats

-- a client's keys: its own, and the permanent one to which that is to be bound
abbrev pub keys_of : Kept → Keys
keys_of kept = keys_in (kept_of kept.holder)

-- a ring has the keys of all clients
abbrev pub HasKeysOf : List RingKey → Kept → Type 0
HasKeysOf ring kept = HasKeys ring (keys_of kept)

abbrev pub HaveKeys : List RingKey → List Kept → Type 0
HaveKeys ring kept = AllByRecursion (HasKeysOf ring) kept

-- whatever ring had the keys of all clients, has them afterwards
abbrev pub KeepKeys : List Kept → List Kept → Type 0
KeepKeys before after = (ring : List RingKey) → HaveKeys ring before → HaveKeys ring after

-- ---- what becomes of one client

-- the client of this number, where there is one, becomes so, and all else stays
abbrev pub Becomes : ℕ → (Seat → Client) → List Kept → List Kept → Type 0
Becomes number change before after =
    (seats : List Seat) (seat : Seat) → Stand before seats → counted number seats ≡ Some seat
    → Stand after (seat_changed number (change seat) seats)

-- what a flush of it does, by its clock
abbrev pub flushed_by : {S : Type 0} → Setting S → S → Seat → Flushed S
flushed_by setting draw seat = flush setting (moment_of seat.clock) seat.client draw

-- what packets open to, at a moment in a direction
abbrev pub IsReading : Lock → List RingKey → (ℕ → Dir → List ℕ → Option Envelope) → Type 0
IsReading lock ring opens =
    (now : ℕ) (dir : Dir) (bytes : List ℕ) (envelope : Envelope)
    → (opens now dir bytes ≡ Some envelope ↔ Opens lock ring now dir bytes envelope)

-- bytes come to the client of this number, and open at the greatest moment that it was given; an ended client takes none
abbrev pub taken_at : (ℕ → Dir → List ℕ → Option Envelope) → ℕ → List ℕ → Seat → List Seat → List Seat
taken_at opens number bytes seat seats =
    if seat.client.has_ended then seats
    else seat_changed number (takes (moment_of seat.clock) (opens (seat_now seat) Down bytes) seat.client) seats

-- ---- its clock

abbrev pub clocked : ℕ → Kept → Kept
clocked at kept = record kept { clock = at }
