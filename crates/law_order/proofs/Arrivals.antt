-- What every event of a world brings to its server, and what it leaves in order.
use Rattle.std.proofs.Common.{◌≡◌, ◌∙◌, ℕ, zero, suc, false, not, Option, Some, None, List, sym, ap}
use Rattle.std.specs.Prelude.{is_some}
use Rattle.std.specs.List.{Contains}
use Rattle.auth_keys.specs.declared.ring.RingKey.{RingKey}
use Rattle.envelope.specs.declared.parts.Dir.{Dir}
use Rattle.envelope.specs.declared.parts.Dir.TheVariants.{Up, Down}
use Rattle.envelope.specs.declared.parts.Envelope.{Envelope}
use Rattle.envelope.specs.Packet.{Lock}
use Rattle.sched_text.specs.declared.event.Event.{Event}
use Rattle.sched_text.specs.declared.event.Event.TheVariants as line
use Rattle.law_server.specs.Order.{AreOrdered}
use Rattle.server_rules.specs.Events.{Course, Event as ServerEvent, Packet as Comes, Restart, after_event}
use Rattle.world_rules.specs.Setting.{Setting, as_heard, at_server}
use Rattle.world_rules.specs.World.{Packet, Seat, World, bytes_of, counted, seat_now, server_now}
use Rattle.world_rules.specs.Premises.{IsByNoChance, OpensOnly}
use Rattle.world_rules.specs.Refusals.{ForeignOpens, opened, refusal, unless}
use Rattle.world_rules.specs.Refusals as refusals
use Rattle.world_rules.specs.Ends.{course_in}
use Rattle.world_rules.specs.Run.{after}
use Rattle.law_packets.specs.Lawful.{AreLawfulPackets, IsSealedPacket}
use Rattle.law_once.specs.Made.{IsOfPacket, IsShort}
use Rattle.law_order.proofs.Lists.{each_of, none-some}
use Rattle.law_order.proofs.Places.{get-there}
use Rattle.law_order.proofs.Walking.{AreOpened, walked}

-- ---- what opens at the server

-- what is known of packets that open
pub record Opens (S V : Type 0) (lock : Lock) (ring : List RingKey) (setting : Setting S V) : Type 0 where
  pub given : (now : ℕ) (packet : Packet) (envelope : Envelope) → IsSealedPacket lock ring setting packet
      → setting.opens now packet.dir (bytes_of setting packet) ≡ Some envelope → packet.envelope ≡ envelope
  pub foreign : (world : World S V) (now : ℕ) (dir : Dir) (bytes : List ℕ) (envelope : Envelope) → AreLawfulPackets lock ring setting world → OpensOnly setting world now dir bytes
      → setting.opens now dir bytes ≡ Some envelope → IsOfPacket world dir envelope
  pub short : (now : ℕ) (dir : Dir) (bytes : List ℕ) (envelope : Envelope) → setting.opens now dir bytes ≡ Some envelope → IsShort envelope

counted-there : (number : ℕ) (bag : List Packet) (packet : Packet) → counted number bag ≡ Some packet → Contains bag packet
counted-there zero bag packet is = absurd (none-some packet is)
counted-there (suc place) bag packet is = get-there bag packet place is

module _ {S V : Type 0} (lock : Lock) (ring : List RingKey) (setting : Setting S V) (opens : Opens S V lock ring setting) (world : World S V) (sealed : AreLawfulPackets lock ring setting world) (Opened : List ℕ → Type 0)
    (so : (bytes : List ℕ) → ((envelope : Envelope) → setting.opens (server_now world) Up bytes ≡ Some envelope → IsOfPacket world Up envelope × IsShort envelope) → Opened bytes) where
  -- what comes up opens to the envelope of a packet that was made
  pub opened-so : (event : Event) → IsByNoChance setting world event → AreOpened setting world Opened event
  opened-so (line.Give number) chance = λ packet is up.
      so (bytes_of setting packet)
      (λ envelope opened.
      let among = counted-there number world.bag packet is in
      let same =
      opens.given (server_now world) packet envelope (each_of (IsSealedPacket lock ring setting) world.bag sealed packet among)
      (ap (λ (dir : Dir). setting.opens (server_now world) dir (bytes_of setting packet)) up ∙ opened) in
      (record { packet = packet; made = among; way = up; same = same }, opens.short (server_now world) Up (bytes_of setting packet) envelope opened))
  opened-so (line.ForeignServer bytes) chance =
      so bytes
      (λ envelope opened. (opens.foreign world (server_now world) Up bytes envelope sealed chance opened, opens.short (server_now world) Up bytes envelope opened))
  opened-so line.Client chance = tt
  opened-so line.ClientTemp chance = tt
  opened-so (line.ClockAll moment) chance = tt
  opened-so (line.ClockServer moment) chance = tt
  opened-so (line.ClockClient client moment) chance = tt
  opened-so (line.Call client body earlier) chance = tt
  opened-so (line.Flush client) chance = tt
  opened-so (line.ForeignClient client bytes) chance = tt
  opened-so (line.Work job) chance = tt
  opened-so line.TickServer chance = tt
  opened-so (line.TickClient client) chance = tt
  opened-so (line.AttachServer client) chance = tt
  opened-so (line.AttachClient client) chance = tt
  opened-so (line.Ping client) chance = tt
  opened-so (line.Salts client count) chance = tt
  opened-so (line.DropAnswer client call) chance = tt
  opened-so (line.Renew client) chance = tt
  opened-so (line.End client) chance = tt
  opened-so (line.Lose client) chance = tt
  opened-so line.Restart chance = tt

-- ---- events with any bytes

abbrev pub IsAny : List ℕ → Type 0
IsAny bytes = Unit {0}

pub any-opened : {S V : Type 0} (setting : Setting S V) (world : World S V) (event : Event) → AreOpened setting world IsAny event
any-opened setting world (line.Give number) = λ packet is up. tt
any-opened setting world (line.ForeignServer bytes) = tt
any-opened setting world line.Client = tt
any-opened setting world line.ClientTemp = tt
any-opened setting world (line.ClockAll moment) = tt
any-opened setting world (line.ClockServer moment) = tt
any-opened setting world (line.ClockClient client moment) = tt
any-opened setting world (line.Call client body earlier) = tt
any-opened setting world (line.Flush client) = tt
any-opened setting world (line.ForeignClient client bytes) = tt
any-opened setting world (line.Work job) = tt
any-opened setting world line.TickServer = tt
any-opened setting world (line.TickClient client) = tt
any-opened setting world (line.AttachServer client) = tt
any-opened setting world (line.AttachClient client) = tt
any-opened setting world (line.Ping client) = tt
any-opened setting world (line.Salts client count) = tt
any-opened setting world (line.DropAnswer client call) = tt
any-opened setting world (line.Renew client) = tt
any-opened setting world (line.End client) = tt
any-opened setting world (line.Lose client) = tt
any-opened setting world line.Restart = tt

abbrev pub IsOrdered : {S V : Type 0} → World S V → Type 0
IsOrdered world = AreOrdered world.server.sessions world.server.jobs

pub event-ordered : {S V : Type 0} (setting : Setting S V)
    → ((course : Course S V) (event : ServerEvent) → AreOrdered course.server.sessions course.server.jobs
    → AreOrdered (after_event (at_server setting) setting.serve setting.fresh course event).server.sessions (after_event (at_server setting) setting.serve setting.fresh course event).server.jobs)
    → (world : World S V) (event : Event) → IsOrdered world → IsOrdered (after setting world event)
event-ordered {S} {V} setting order world event ordered =
    let served = λ (event : ServerEvent). order (course_in world) event ordered in
    walked setting world IsOrdered IsAny
    (record {
      still = ordered;
      joined = λ key temporary idle. ordered;
      all_set = λ moment. ordered;
      server_set = λ moment. ordered;
      one_set = λ number moment. ordered;
      acted = λ number seat is wish wished. ordered;
      flushed = λ number seat is. ordered;
      served = λ event quiet. served event;
      again = served Restart;
      came = λ bytes any. served (Comes world.clock (Rattle.std.specs.Prelude.option_map as_heard (setting.opens (server_now world) Up bytes)));
    })
    event (any-opened setting world event)

-- ---- a schedule refuses foreign bytes that open

not-opened : (found : Option Envelope) (envelope : Envelope) → is_some (unless (not (is_some found)) ForeignOpens) ≡ false → found ≡ Some envelope → ⊥
not-opened None envelope fine is = none-some envelope is
not-opened (Some other) envelope fine is = cc

module _ {S V : Type 0} (setting : Setting S V) (world : World S V) where
  foreign-fine : (client : ℕ) (bytes : List ℕ) (seat : Seat) → counted client world.seats ≡ Some seat → is_some (refusal setting world (line.ForeignClient client bytes)) ≡ false
      → OpensOnly setting world (seat_now seat) Down bytes
  foreign-fine client bytes seat at fine envelope is =
      absurd (not-opened (setting.opens (seat_now seat) Down bytes) envelope
      (sym (ap (λ (found : Option Seat). is_some (refusals.at_client found (opened setting client bytes))) at) ∙ fine) is)

  pub no-chance : (event : Event) → is_some (refusal setting world event) ≡ false → IsByNoChance setting world event
  no-chance (line.ForeignServer bytes) fine = λ envelope is. absurd (not-opened (setting.opens (server_now world) Up bytes) envelope fine is)
  no-chance (line.ForeignClient client bytes) fine = λ seat at. foreign-fine client bytes seat at fine
  no-chance line.Client fine = tt
  no-chance line.ClientTemp fine = tt
  no-chance (line.ClockAll moment) fine = tt
  no-chance (line.ClockServer moment) fine = tt
  no-chance (line.ClockClient client moment) fine = tt
  no-chance (line.Call client body earlier) fine = tt
  no-chance (line.Flush client) fine = tt
  no-chance (line.Give packet) fine = tt
  no-chance (line.Work job) fine = tt
  no-chance line.TickServer fine = tt
  no-chance (line.TickClient client) fine = tt
  no-chance (line.AttachServer client) fine = tt
  no-chance (line.AttachClient client) fine = tt
  no-chance (line.Ping client) fine = tt
  no-chance (line.Salts client count) fine = tt
  no-chance (line.DropAnswer client call) fine = tt
  no-chance (line.Renew client) fine = tt
  no-chance (line.End client) fine = tt
  no-chance (line.Lose client) fine = tt
  no-chance line.Restart fine = tt
