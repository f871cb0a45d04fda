-- An event of a client leaves a world steady.
use Rattle.std.proofs.Common.{◌≡◌, ℕ, true, Option, Some, None, List, [], ◌∷◌, refl}
use Rattle.std.specs.List.{AllByRecursion}
use Rattle.std.proofs.lemmas.Bool.{cond_both}
use Rattle.auth_keys.specs.declared.ring.RingKey.{RingKey}
use Rattle.envelope.specs.declared.parts.Dir.{Dir}
use Rattle.envelope.specs.declared.parts.Dir.TheVariants.{Down, Up}
use Rattle.envelope.specs.declared.parts.Envelope.{Envelope}
use Rattle.envelope.specs.Packet.{Lock}
use Rattle.msg_ids.specs.Moments.{moment_of}
use Rattle.client_rules.specs.Client.{Client, Temporary}
use Rattle.client_rules.specs.Events as wishes
use Rattle.client_rules.specs.Events.{Take}
use Rattle.client_rules.specs.Flush.{Answer, Nothing, Sends, Spent}
use Rattle.law_packets.specs.Steady as own
use Rattle.world_rules.specs.Ends.{acts, arrives, comes_down, comes_to_owner, flushed_at, flushes, goes, seat_changed, seated, sent_up, with_seat}
use Rattle.world_rules.specs.Run.{joins}
use Rattle.world_rules.specs.Setting.{Setting, at_client}
use Rattle.world_rules.specs.World.{Packet, Seat, World, bytes_of, counted, owner, seat_now}
use Rattle.law_packets.specs.Lawful.{IsSealedPacket, IsSteady, is_held}
use Rattle.law_packets.proofs.Below.{Laws, Premises, fit, is-sealed, key-long, opened-is}
use Rattle.law_packets.proofs.Lists.{If, rec-append, rec-changed, rec-counted}
use Rattle.law_packets.proofs.Serving.{up-steady}

module _ {S V : Type 0} (laws : Laws S V) (lock : Lock) (ring : List RingKey) (setting : Setting S V) (premises : Premises lock ring setting) where
  abbrev Is : World S V → Type 0
  Is world = IsSteady lock ring setting world

  abbrev IsSeat : Seat → Type 0
  IsSeat seat = own.IsSteady (is_held ring) seat.client

  changed : (number : ℕ) (client : Client) (seats : List Seat) → own.IsSteady (is_held ring) client → AllByRecursion IsSeat seats → AllByRecursion IsSeat (seat_changed number client seats)
  changed number client seats is all = rec-changed IsSeat number (λ seat. record seat { client = client }) seats (λ seat before. is) all

  pub acts-steady : (number : ℕ) (seat : Seat) (event : wishes.Event) (world : World S V) → own.IsFair event → IsSeat seat → Is world → Is (acts setting number seat event world)
  acts-steady number seat event world fair is s =
      let run : wishes.Run S = record { client = seat.client; draw = world.draw } in
      let done = laws.step (is_held ring) (at_client setting) run event (fit laws lock ring setting premises) fair is in
      record { seats = changed number (wishes.step (at_client setting) run event).client world.seats done s.seats; server = s.server; bag = s.bag }

  up-sealed : (answer : Answer) → own.MayGo (is_held ring) answer → AllByRecursion (IsSealedPacket lock ring setting) (sent_up answer)
  up-sealed Nothing may = tt
  up-sealed Spent may = tt
  up-sealed (Sends packet) may = (is-sealed laws lock ring setting premises Up packet.envelope packet.padding may.key may.lawful may.short may.padded, tt)

  pub flushes-steady : (number : ℕ) (seat : Seat) (world : World S V) → IsSeat seat → Is world → Is (flushes setting number seat world)
  flushes-steady number seat world is s =
      let now = moment_of seat.clock in
      let may = fit laws lock ring setting premises in
      let done = flushed_at setting seat world in
      record {
        seats = changed number done.client world.seats (laws.flushed (is_held ring) (at_client setting) now seat.client world.draw may is) s.seats;
        server = s.server;
        bag = rec-append (IsSealedPacket lock ring setting) world.bag (sent_up done.answer) s.bag
            (up-sealed done.answer (laws.sent (is_held ring) (at_client setting) now seat.client world.draw may is));
      }

  take-fair : (now : ℕ) (found : Option Envelope) (at : ℕ) (bytes : List ℕ) → setting.opens at Down bytes ≡ found → own.IsFair (Take now found)
  take-fair now None at bytes is = tt
  take-fair now (Some envelope) at bytes is = (opened-is laws lock ring setting premises at Down bytes envelope is).lawful.bytes

  pub down-steady : (number : ℕ) (bytes : List ℕ) (seat : Seat) (world : World S V) → IsSeat seat → Is world → Is (comes_down setting number bytes seat world)
  down-steady number bytes seat world is s =
      let opened = setting.opens (seat_now seat) Down bytes in
      cond_both seat.client.has_ended world (acts setting number seat (Take (moment_of seat.clock) opened) world) Is (λ ended. s)
      (λ goes_on. acts-steady number seat (Take (moment_of seat.clock) opened) world (take-fair (moment_of seat.clock) opened (seat_now seat) bytes refl) is s)

  seated-steady : (found : Option Seat) (act : Seat → World S V → World S V) (world : World S V) → If IsSeat found → ((seat : Seat) → IsSeat seat → Is (act seat world)) → Is world
      → Is (seated found act world)
  seated-steady None act world is goes s = s
  seated-steady (Some seat) act world is goes s = goes seat is

  pub with-seat : (number : ℕ) (act : Seat → World S V → World S V) (world : World S V) → ((seat : Seat) → IsSeat seat → Is (act seat world)) → Is world
      → Is (with_seat number act world)
  with-seat number act world goes s = seated-steady (counted number world.seats) act world (rec-counted IsSeat world.seats number s.seats) goes s

  owner-steady : (bytes : List ℕ) (found : Option ℕ) (world : World S V) → Is world → Is (comes_to_owner setting bytes found world)
  owner-steady bytes None world s = s
  owner-steady bytes (Some number) world s =
      with-seat number (comes_down setting number bytes) world (λ seat is. down-steady number bytes seat world is s) s

  goes-steady : (packet : Packet) (dir : Dir) (world : World S V) → Is world → Is (goes setting packet dir world)
  goes-steady packet Up world s = up-steady laws lock ring setting premises (bytes_of setting packet) world s
  goes-steady packet Down world s = owner-steady (bytes_of setting packet) (owner packet.envelope.session world.seats) world s

  pub arrives-steady : (found : Option Packet) (world : World S V) → Is world → Is (arrives setting found world)
  arrives-steady None world s = s
  arrives-steady (Some packet) world s = goes-steady packet packet.dir world s

  pub joins-steady : (key : ℕ) (temporary : Option Temporary) (world : World S V) → is_held ring key ≡ true → own.IsTemporary temporary → Is world → Is (joins setting key temporary world)
  joins-steady key temporary world held may s =
      let made = wishes.made (at_client setting) key temporary world.draw in
      let seat : Seat = record { client = made.client; clock = 0 } in
      let is = laws.made (is_held ring) (at_client setting) key temporary world.draw (fit laws lock ring setting premises) held (key-long laws lock ring setting premises key held) may in
      record { seats = rec-append IsSeat world.seats (seat ∷ []) s.seats (is, tt); server = s.server; bag = s.bag }
