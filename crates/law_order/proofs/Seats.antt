-- Clients go on in their places.
use Rattle.std.proofs.Common.{◌≡◌, zero, suc, ℕ, Some, List, [], ◌∷◌, ◌++◌, map, refl, ap, subst}
use Rattle.std.specs.Prelude.{slice_get}
use Rattle.std.specs.List.{AllByRecursion}
use Rattle.envelope.specs.declared.parts.Envelope.{Envelope}
use Rattle.call_table.specs.Table.{Call}
use Rattle.client_rules.specs.Client.{calls_of}
use Rattle.law_order.specs.Behind.{KeepsTurn, Last}
use Rattle.law_order.specs.Going.{IsPacketFrom}
use Rattle.world_rules.specs.World.{Packet, Seat, changed_at, changed_from_0, counted}
use Rattle.world_rules.specs.Run.{set}
use Rattle.law_order.specs.Keeping.{AreTurning, IsUpFrom}
use Rattle.law_order.proofs.Lists.{all-weaker, none-some, some-same}
use Rattle.law_order.proofs.Places.{get-append}

-- a seat at a later moment: its client keeps its key and its calls
pub record IsLater (seat later : Seat) : Type 0 where
  pub key : later.client.key ≡ seat.client.key
  pub last : Last (calls_of seat.client) (calls_of later.client)

abbrev pub GoOn : List Seat → List Seat → Type 0
GoOn seats laters = (place : ℕ) (seat : Seat) → slice_get seats place ≡ Some seat → (later : Seat) × (slice_get laters place ≡ Some later) × IsLater seat later

same-calls : (calls : List Call) → Last calls calls
same-calls calls = λ place call is.
    (call, is, record { body = refl; after = refl; names = λ name among. record { name = name; among = among; of_session = refl; same = refl }; done = λ result done. done })

pub itself : (seat : Seat) → IsLater seat seat
itself seat = record { key = refl; last = same-calls (calls_of seat.client) }

pub stand-still : (seats : List Seat) → GoOn seats seats
stand-still seats = λ place seat is. (seat, is, itself seat)

-- ---- one changes

changed-from : (seats : List Seat) (place : ℕ) (change : Seat → Seat) → ((seat : Seat) → slice_get seats place ≡ Some seat → IsLater seat (change seat))
    → GoOn seats (changed_from_0 place change seats)
changed-from [] place change so at seat is = absurd (none-some seat is)
changed-from (first ∷ seats) zero change so zero seat is = (change first, refl, subst (λ (seat : Seat). IsLater seat (change first)) (some-same first seat is) (so first refl))
changed-from (first ∷ seats) zero change so (suc at) seat is = (seat, is, itself seat)
changed-from (first ∷ seats) (suc place) change so zero seat is = (first, refl, subst (λ (seat : Seat). IsLater seat first) (some-same first seat is) (itself first))
changed-from (first ∷ seats) (suc place) change so (suc at) seat is = changed-from seats place change so at seat is

pub changed-go : (seats : List Seat) (number : ℕ) (change : Seat → Seat) → ((seat : Seat) → counted number seats ≡ Some seat → IsLater seat (change seat))
    → GoOn seats (changed_at number change seats)
changed-go seats zero change so = stand-still seats
changed-go seats (suc place) change so = changed-from seats place change so

turned-from : (seats : List Seat) (place : ℕ) (change : Seat → Seat) → ((seat : Seat) → slice_get seats place ≡ Some seat → KeepsTurn seat.client → KeepsTurn (change seat).client)
    → AreTurning seats → AreTurning (changed_from_0 place change seats)
turned-from [] place change so are = tt
turned-from (first ∷ seats) zero change so are = (so first refl are.0, are.1)
turned-from (first ∷ seats) (suc place) change so are = (are.0, turned-from seats place change so are.1)

pub changed-turning : (seats : List Seat) (number : ℕ) (change : Seat → Seat) → ((seat : Seat) → counted number seats ≡ Some seat → KeepsTurn seat.client → KeepsTurn (change seat).client)
    → AreTurning seats → AreTurning (changed_at number change seats)
changed-turning seats zero change so are = are
changed-turning seats (suc place) change so are = turned-from seats place change so are

changed-there : (seats : List Seat) (place : ℕ) (change : Seat → Seat) (seat : Seat) → slice_get seats place ≡ Some seat → slice_get (changed_from_0 place change seats) place ≡ Some (change seat)
changed-there [] place change seat is = absurd (none-some (change seat) (absurd (none-some seat is)))
changed-there (first ∷ seats) zero change seat is = ap (λ (seat : Seat). Some (change seat)) (some-same first seat is)
changed-there (first ∷ seats) (suc place) change seat is = changed-there seats place change seat is

-- the place of a number
pub changed-at : (seats : List Seat) (number : ℕ) (change : Seat → Seat) (seat : Seat) → counted number seats ≡ Some seat
    → (place : ℕ) × (slice_get (changed_at number change seats) place ≡ Some (change seat))
changed-at seats zero change seat is = absurd (none-some seat is)
changed-at seats (suc place) change seat is = (place, changed-there seats place change seat is)

-- ---- clocks, and a client more

pub set-go : (seats : List Seat) (moment : ℕ) → GoOn seats (map (set moment) seats)
set-go [] moment place seat is = absurd (none-some seat is)
set-go (first ∷ seats) moment zero seat is =
    (set moment first, refl, subst (λ (seat : Seat). IsLater seat (set moment first)) (some-same first seat is) (record { key = refl; last = same-calls (calls_of first.client) }))
set-go (first ∷ seats) moment (suc place) seat is = set-go seats moment place seat is

pub set-turning : (seats : List Seat) (moment : ℕ) → AreTurning seats → AreTurning (map (set moment) seats)
set-turning [] moment are = tt
set-turning (first ∷ seats) moment are = (are.0, set-turning seats moment are.1)

pub set-later : (moment : ℕ) (seat : Seat) → IsLater seat (set moment seat)
set-later moment seat = record { key = refl; last = same-calls (calls_of seat.client) }

pub more-go : (seats more : List Seat) → GoOn seats (seats ++ more)
more-go seats more = λ place seat is. (seat, get-append seats more place seat is, itself seat)

-- ---- packets

pub bag-later : ((calls later : List Call) (envelope : Envelope) → Last calls later → IsPacketFrom calls envelope → IsPacketFrom later envelope)
    → (seats laters : List Seat) → GoOn seats laters → (bag : List Packet) → AllByRecursion (IsUpFrom seats) bag → AllByRecursion (IsUpFrom laters) bag
bag-later stays seats laters go bag are =
    all-weaker (IsUpFrom seats) (IsUpFrom laters) bag
    (λ packet from up.
    let was = from up in
    let now = go was.place was.seat was.there in
    record {
      seat = now.0;
      place = was.place;
      there = now.1;
      from = stays (calls_of was.seat.client) (calls_of now.0.client) packet.envelope now.2.last was.from;
    }) are
