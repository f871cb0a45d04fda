-- Any event, in a world.
use Rattle.std.proofs.Common.{◌≡◌, ℕ, zero, suc, List, [], Option, Some, None, refl, ap, ◌∙◌, length, arith, ◌≤◌}
use Rattle.std.specs.List.{Contains}
use Rattle.auth_keys.specs.declared.ring.RingKey.{RingKey}
use Rattle.envelope.specs.declared.parts.Dir.{Dir}
use Rattle.envelope.specs.declared.parts.Dir.TheVariants.{Up, Down}
use Rattle.envelope.specs.declared.parts.Envelope.{Envelope}
use Rattle.envelope.specs.Lawful.{OpensWhatItSealed}
use Rattle.envelope.specs.Packet.{IsEnvelope, Lock}
use Rattle.tl_codec.specs.Standard.{bytes_max}
use Rattle.law_moves.specs.Table as moves
use Rattle.law_client.specs.Sent.{IsPacketSent}
use Rattle.law_once.specs.Small.{Fits}
use Rattle.sched_text.specs.declared.event.Event.{Event}
use Rattle.sched_text.specs.declared.event.Event.TheVariants as line
use Rattle.server_rules.specs.Events.{Attach, Course, Event as ServerEvent, Loss, after_event}
use Rattle.law_server.specs.Order.{AreOrdered}
use Rattle.law_server_bounds.specs.Small.{IsSmallEnvelope}
use Rattle.law_moves.specs.World.{World as Moved}
use Rattle.world_rules.specs.Setting.{Setting, as_heard, at_server}
use Rattle.world_rules.specs.World.{Packet, Seat, World, bytes_of, counted, server_now}
use Rattle.world_rules.specs.Ends.{arrives, comes_up, goes, seated, serves}
use Rattle.world_rules.specs.Premises.{Fresh, IsByNoChance, IsSealed, OpensOnly}
use Rattle.world_rules.specs.Run.{after, present_name, works}
use Rattle.law_server_moves.specs.Servers.{IsPacketUp}
use Rattle.law_once.specs.Standing.{MovesOn, IsKeyOf, IsThere, WorldStands}
use Rattle.law_packets.specs.Lawful.{AreLawfulPackets, IsSealedPacket}
use Rattle.law_once.specs.Made.{IsShort}
use Rattle.law_once.proofs.Acting.{IsOfClients}
use Rattle.law_once.proofs.Lists.{each_of}
use Rattle.law_once.proofs.Places.{get_there}
use Rattle.law_once.proofs.Known.{Moving, Still}
use Rattle.law_once.proofs.Provenance.{foreign_made, given_made, opened_short}
use Rattle.law_once.proofs.Clients.{Acts, Flushes, ServersStill}
use Rattle.law_once.proofs.Wishes.{by_themselves}
use Rattle.law_once.proofs.Coming.{foreign_down, given_down, in_bag}
use Rattle.law_once.proofs.Named.{Themselves}
use Rattle.law_once.proofs.Servers.{Reads, Serves, attached, came_up, lost, restarted, ticked, worked}

counted_there : (number : ℕ) (bag : List Packet) (packet : Packet) → counted number bag ≡ Some packet → Contains bag packet
counted_there zero bag packet is = let none : None ≡ Some packet = is in absurd (cc)
counted_there (suc place) bag packet is = get_there bag packet place is

-- all that is known of clients and of a server
pub record Laws (S V : Type 0) : Type 0 where
  pub moving : Moving
  pub still : Still
  pub servers : ServersStill S V
  pub acts : Acts
  pub flushes : Flushes S
  pub alone : Themselves S
  pub serves : Serves S V
  pub read : Reads
  pub judged : (ups : List moves.Message) (envelope : Envelope) → IsEnvelope envelope → length envelope.body ≤ bytes_max → IsPacketSent ups envelope → IsPacketUp ups (as_heard envelope)
  pub order : (setting : Setting S V) (course : Course S V) (event : ServerEvent) → AreOrdered course.server.sessions course.server.jobs
      → AreOrdered (after_event (at_server setting) setting.serve setting.fresh course event).server.sessions (after_event (at_server setting) setting.serve setting.fresh course event).server.jobs

module _ {S V : Type 0} (laws : Laws S V) (lock : Lock) (ring : List RingKey) (setting : Setting S V) (seals : OpensWhatItSealed lock) (so : IsSealed lock ring setting)
    (w : Moved) (world : World S V) (h : WorldStands w world) (sealed : AreLawfulPackets lock ring setting world) where
  abbrev Says : World S V → Type 0
  Says behind = AreLawfulPackets lock ring setting behind × Fits setting

  -- ---- a packet comes

  -- of a packet of the world the server judges what was sent in it
  judged_up : (now : ℕ) (bytes : List ℕ) (packet : Packet) (envelope : Envelope) → setting.opens now Up bytes ≡ Some envelope → Contains world.bag packet → packet.dir ≡ Up → packet.envelope ≡ envelope
      → (IsPacketUp w.ups (as_heard envelope) × IsKeyOf w world.seats envelope.session envelope.key) × IsSmallEnvelope (as_heard envelope)
  judged_up now bytes packet envelope is among way same =
      let short : IsShort envelope = opened_short lock ring setting seals so now Up bytes envelope is in
      let there : IsThere w world.seats Up envelope = in_bag laws.moving laws.still laws.servers laws.acts lock ring setting seals so w world h sealed packet Up envelope among way same in
      ((laws.judged w.ups envelope short.lawful (let below = short.body in omega (arith, below)) there.0, there.1), record { key = short.lawful.key; session = short.lawful.session; number = short.lawful.number; bytes = short.lawful.bytes })

  given_up : (packet : Packet) → Contains world.bag packet → packet.dir ≡ Up → Fresh (comes_up setting (bytes_of setting packet) world) → Says (comes_up setting (bytes_of setting packet) world) → MovesOn w (comes_up setting (bytes_of setting packet) world)
  given_up packet among way fresh plain =
      came_up laws.moving laws.still laws.alone laws.serves laws.order laws.read lock ring seals setting w world h (bytes_of setting packet)
      (λ envelope is.
      let same = given_made lock ring setting seals so (server_now world) packet envelope (each_of (IsSealedPacket lock ring setting) world.bag sealed packet among)
      (ap (λ (d : Dir). setting.opens (server_now world) d (bytes_of setting packet)) way ∙ is) in
      judged_up (server_now world) (bytes_of setting packet) packet envelope is among way same) fresh plain

  went : (packet : Packet) (dir : Dir) → Contains world.bag packet → packet.dir ≡ dir → Fresh (goes setting packet dir world) → Says (goes setting packet dir world) → MovesOn w (goes setting packet dir world)
  went packet Up among way fresh plain = given_up packet among way fresh plain
  went packet Down among way fresh plain = given_down laws.moving laws.still laws.servers laws.acts lock ring setting seals so w world h sealed packet among way

  arrived : (found : Option Packet) → ((packet : Packet) → found ≡ Some packet → Contains world.bag packet) → Fresh (arrives setting found world) → Says (arrives setting found world) → MovesOn w (arrives setting found world)
  arrived None among fresh plain = ([], tt, h)
  arrived (Some packet) among fresh plain = went packet packet.dir (among packet refl) refl fresh plain

  foreign_up : (bytes : List ℕ) → OpensOnly setting world (server_now world) Up bytes → Fresh (comes_up setting bytes world) → Says (comes_up setting bytes world) → MovesOn w (comes_up setting bytes world)
  foreign_up bytes only fresh plain =
      came_up laws.moving laws.still laws.alone laws.serves laws.order laws.read lock ring seals setting w world h bytes
      (λ envelope is.
      let of = foreign_made lock ring setting seals so world (server_now world) Up bytes envelope sealed only is in
      judged_up (server_now world) bytes of.packet envelope is of.made of.way of.same) fresh plain

  -- ---- the server does something

  sat : (found : Option Seat) (act : Seat → World S V → World S V) → ((seat : Seat) → Fresh (act seat world) → Says (act seat world) → MovesOn w (act seat world)) → Fresh (seated found act world) → Says (seated found act world) → MovesOn w (seated found act world)
  sat None act each fresh plain = ([], tt, h)
  sat (Some seat) act each fresh plain = each seat fresh plain

  worked_at : (place : ℕ) → Fresh (works setting place world) → Says (works setting place world) → MovesOn w (works setting place world)
  worked_at zero fresh plain = ([], tt, h)
  worked_at (suc place) fresh plain = worked laws.moving laws.still laws.alone laws.serves laws.order laws.read lock ring seals setting w world h place fresh plain

  -- ---- any event

  by_client : (event : Event) → IsOfClients event → Fresh (after setting world event) → MovesOn w (after setting world event)
  by_client event of fresh = by_themselves laws.moving laws.still laws.servers laws.acts laws.flushes setting w world h event of (fresh.some, fresh.apart)

  pub goes_on : (event : Event) → IsByNoChance setting world event → Fresh (after setting world event) → Says (after setting world event) → MovesOn w (after setting world event)
  goes_on line.Client chance fresh plain = by_client line.Client tt fresh
  goes_on line.ClientTemp chance fresh plain = by_client line.ClientTemp tt fresh
  goes_on (line.ClockAll moment) chance fresh plain = by_client (line.ClockAll moment) tt fresh
  goes_on (line.ClockServer moment) chance fresh plain = by_client (line.ClockServer moment) tt fresh
  goes_on (line.ClockClient client moment) chance fresh plain = by_client (line.ClockClient client moment) tt fresh
  goes_on (line.Call client body earlier) chance fresh plain = by_client (line.Call client body earlier) tt fresh
  goes_on (line.Flush client) chance fresh plain = by_client (line.Flush client) tt fresh
  goes_on (line.Give packet) chance fresh plain = arrived (counted packet world.bag) (counted_there packet world.bag) fresh plain
  goes_on (line.ForeignServer bytes) chance fresh plain = foreign_up bytes chance fresh plain
  goes_on (line.ForeignClient client bytes) chance fresh plain = foreign_down laws.moving laws.still laws.servers laws.acts lock ring setting seals so w world h sealed client bytes chance
  goes_on (line.Work job) chance fresh plain = worked_at job fresh plain
  goes_on line.TickServer chance fresh plain = ticked laws.moving laws.still laws.alone laws.serves laws.order laws.read lock ring seals setting w world h fresh plain
  goes_on (line.TickClient client) chance fresh plain = by_client (line.TickClient client) tt fresh
  goes_on (line.AttachServer client) chance fresh plain =
      sat (counted client world.seats) (λ seat. serves setting (Attach world.clock (present_name seat)))
      (λ seat new says. attached laws.moving laws.still laws.alone laws.serves laws.order laws.read lock ring seals setting w world h (present_name seat) new says) fresh plain
  goes_on (line.AttachClient client) chance fresh plain = by_client (line.AttachClient client) tt fresh
  goes_on (line.Ping client) chance fresh plain = by_client (line.Ping client) tt fresh
  goes_on (line.Salts client count) chance fresh plain = by_client (line.Salts client count) tt fresh
  goes_on (line.DropAnswer client call) chance fresh plain = by_client (line.DropAnswer client call) tt fresh
  goes_on (line.Renew client) chance fresh plain = by_client (line.Renew client) tt fresh
  goes_on (line.End client) chance fresh plain = by_client (line.End client) tt fresh
  goes_on (line.Lose client) chance fresh plain =
      sat (counted client world.seats) (λ seat. serves setting (Loss (present_name seat)))
      (λ seat new says. lost laws.moving laws.still laws.alone laws.serves laws.order laws.read lock ring seals setting w world h (present_name seat) says) fresh plain
  goes_on line.Restart chance fresh plain = restarted laws.moving laws.still laws.alone laws.serves laws.order laws.read lock ring seals setting w world h plain
