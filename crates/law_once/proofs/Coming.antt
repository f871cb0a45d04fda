-- A packet comes to a client, in a world.
use Rattle.std.proofs.Common.{◌≡◌, ℕ, zero, suc, List, [], Option, Some, None, refl, ap, subst, ◌∙◌}
use Rattle.std.specs.Prelude.{slice_get}
use Rattle.std.specs.List.{Contains}
use Rattle.std.proofs.lemmas.Bool.{cond_both}
use Rattle.msg_ids.specs.Moments.{moment_of}
use Rattle.auth_keys.specs.declared.ring.RingKey.{RingKey}
use Rattle.envelope.specs.declared.parts.Dir.{Dir}
use Rattle.envelope.specs.declared.parts.Dir.TheVariants.{Down}
use Rattle.envelope.specs.declared.parts.Envelope.{Envelope}
use Rattle.envelope.specs.Lawful.{OpensWhatItSealed}
use Rattle.envelope.specs.Packet.{Lock}
use Rattle.law_moves.specs.World.{World as Moved}
use Rattle.client_rules.specs.Events as wishes
use Rattle.world_rules.specs.Setting.{Setting}
use Rattle.world_rules.specs.World.{Packet, Seat, World, bytes_of, counted, owner, seat_now}
use Rattle.world_rules.specs.Ends.{acts, comes_down, comes_to_owner, seated, with_seat}
use Rattle.world_rules.specs.Premises.{IsSealed, OpensOnly}
use Rattle.law_once.specs.Standing.{MovesOn, IsBagged, IsDown, IsThere, WorldStands}
use Rattle.law_packets.specs.Lawful.{AreLawfulPackets, IsSealedPacket}
use Rattle.law_once.proofs.Lists.{each_of}
use Rattle.law_once.proofs.Known.{Moving, Still}
use Rattle.law_once.proofs.Provenance.{foreign_made, given_made}
use Rattle.law_once.proofs.Clients.{Acts, ServersStill, heard_so}

module _ {S V : Type 0} (known : Moving) (still : Still) (servers : ServersStill S V) (acts_so : Acts) (lock : Lock) (ring : List RingKey) (setting : Setting S V)
    (seals : OpensWhatItSealed lock) (so : IsSealed lock ring setting) (w : Moved) (world : World S V) (h : WorldStands w world) (lawful : AreLawfulPackets lock ring setting world) where
  -- a packet of the world stands there
  pub in_bag : (packet : Packet) (dir : Dir) (envelope : Envelope) → Contains world.bag packet → packet.dir ≡ dir → packet.envelope ≡ envelope → IsThere w world.seats dir envelope
  in_bag packet dir envelope among way same =
      subst (λ (e : Envelope). IsThere w world.seats dir e) same
      (subst (λ (d : Dir). IsThere w world.seats d packet.envelope) way (each_of (IsBagged w world.seats) world.bag h.bag packet among))

  came_down : (place : ℕ) (bytes : List ℕ) (seat : Seat) → slice_get world.seats place ≡ Some seat
      → ((envelope : Envelope) → setting.opens (seat_now seat) Down bytes ≡ Some envelope → IsDown w envelope) → MovesOn w (comes_down setting (suc place) bytes seat world)
  came_down place bytes seat is down =
      cond_both seat.client.has_ended world (acts setting (suc place) seat (wishes.Take (moment_of seat.clock) (setting.opens (seat_now seat) Down bytes)) world) (MovesOn w)
      (λ over. ([], tt, h)) (λ on. heard_so known still servers w world h place seat is acts_so setting (moment_of seat.clock) (setting.opens (seat_now seat) Down bytes) down)

  at_seat : (place : ℕ) (bytes : List ℕ) (found : Option Seat) → slice_get world.seats place ≡ found
      → ((seat : Seat) (envelope : Envelope) → found ≡ Some seat → setting.opens (seat_now seat) Down bytes ≡ Some envelope → IsDown w envelope) → MovesOn w (seated found (comes_down setting (suc place) bytes) world)
  at_seat place bytes None is down = ([], tt, h)
  at_seat place bytes (Some seat) is down = came_down place bytes seat is (λ envelope. down seat envelope refl)

  pub at_number : (number : ℕ) (bytes : List ℕ) → ((seat : Seat) (envelope : Envelope) → counted number world.seats ≡ Some seat → setting.opens (seat_now seat) Down bytes ≡ Some envelope → IsDown w envelope)
      → MovesOn w (with_seat number (comes_down setting number bytes) world)
  at_number zero bytes down = ([], tt, h)
  at_number (suc place) bytes down = at_seat place bytes (slice_get world.seats place) refl down

  to_owner : (bytes : List ℕ) (number : Option ℕ) → ((seat : Seat) (envelope : Envelope) → setting.opens (seat_now seat) Down bytes ≡ Some envelope → IsDown w envelope)
      → MovesOn w (comes_to_owner setting bytes number world)
  to_owner bytes None down = ([], tt, h)
  to_owner bytes (Some number) down = at_number number bytes (λ seat envelope is. down seat envelope)

  -- one that is given
  pub given_down : (packet : Packet) → Contains world.bag packet → packet.dir ≡ Down → MovesOn w (comes_to_owner setting (bytes_of setting packet) (owner packet.envelope.session world.seats) world)
  given_down packet among way =
      to_owner (bytes_of setting packet) (owner packet.envelope.session world.seats)
      (λ seat envelope is. in_bag packet Down envelope among way
      (given_made lock ring setting seals so (seat_now seat) packet envelope (each_of (IsSealedPacket lock ring setting) world.bag lawful packet among)
      (ap (λ (d : Dir). setting.opens (seat_now seat) d (bytes_of setting packet)) way ∙ is)))

  -- foreign bytes
  pub foreign_down : (client : ℕ) (bytes : List ℕ) → ((seat : Seat) → counted client world.seats ≡ Some seat → OpensOnly setting world (seat_now seat) Down bytes)
      → MovesOn w (with_seat client (comes_down setting client bytes) world)
  foreign_down client bytes only =
      at_number client bytes
      (λ seat envelope at is.
      let of = foreign_made lock ring setting seals so world (seat_now seat) Down bytes envelope lawful (only seat at) is in
      in_bag of.packet Down envelope of.made of.way of.same)
