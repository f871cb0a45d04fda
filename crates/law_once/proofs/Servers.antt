-- An event of the server, in a world.
use Rattle.std.proofs.Common.{drop, ◌≡◌, ℕ, suc, List, [], Option, Some, None, refl, sym, ap, subst, ◌∙◌, arith, ◌∷◌, length, ◌≤◌, true, ◌++◌}
use Rattle.std.specs.Prelude.{map, option_map, slice_get}
use Rattle.std.specs.List.{All, AllByRecursion, Contains}
use Rattle.std.proofs.lemmas.List.{drop_at}
use Rattle.std.proofs.lemmas.List.Elements.{Contains-append_right}
use Rattle.auth_keys.specs.declared.ring.RingKey.{RingKey}
use Rattle.tl_codec.specs.Standard.{bytes_max}
use Rattle.service_tl.specs.declared.lists.Message.{Message}
use Rattle.containers.specs.Container.{IsContainer, begins_container}
use Rattle.envelope.specs.Lawful.{OpensWhatItSealed}
use Rattle.envelope.specs.Packet.{Lock}
use Rattle.law_client.specs.Packets.{packet_items}
use Rattle.envelope.specs.declared.parts.Dir.{Dir}
use Rattle.envelope.specs.declared.parts.Dir.TheVariants.{Up, Down}
use Rattle.envelope.specs.declared.parts.Envelope.{Envelope}
use Rattle.server_rules.specs.Server.{Name, Session}
use Rattle.server_rules.specs.Event.{Envelope as Heard, Sent}
use Rattle.server_rules.specs.Events.{Attach, Course, Event as ServerEvent, Loss, Packet as Comes, Restart, Tick, Work, after_event}
use Rattle.law_server.specs.Order.{AreOrdered}
use Rattle.law_server_bounds.specs.Small.{AreSmall as AreKeptSmall, DrawsWords, GivesReplies, HasSmallEnvelope, IsSmallEnvelope, IsWhole, IsWholeSent}
use Rattle.law_moves.specs.World.{Owns, World as Moved}
use Rattle.law_moves.specs.Move.{Move}
use Rattle.law_moves.specs.Extends.{Extends}
use Rattle.law_moves.specs.Reached.{AreLawful, Reached, after_all}
use Rattle.law_client.specs.Leading.{IsOfServers}
use Rattle.world_rules.specs.Setting.{Setting, as_heard, at_server}
use Rattle.world_rules.specs.World.{Packet, Seat, World, bytes_of, lives, server_now}
use Rattle.world_rules.specs.Ends.{comes_up, course_in, sent_down, serves}
use Rattle.world_rules.specs.Premises.{Fresh}
use Rattle.law_server_moves.specs.Leading.{Leads}
use Rattle.law_server_moves.specs.Sending.{WentOut}
use Rattle.law_server_moves.specs.Servers.{IsPacketUp}
use Rattle.law_server_moves.specs.Worlds.{HasServed, StandsIn as AreServersIn}
use Rattle.law_once.specs.Small.{Fits}
use Rattle.law_packets.specs.Lawful.{AreLawfulPackets, IsSealedPacket}
use Rattle.law_once.specs.Standing.{MovesOn, IsBagged, IsKeyOf, IsSeated, IsThere, WorldStands, key_at}
use Rattle.law_once.proofs.Lists.{all_append, each_of, map_all}
use Rattle.law_once.proofs.Known.{Moving, Still}
use Rattle.law_once.proofs.Nobody.{nobody_by_servers}
use Rattle.law_once.proofs.Lasting.{bag_still, key_still, keys_same}
use Rattle.law_once.proofs.Named.{Themselves, attach_named, loss_named, packet_named, restart_named, tick_named, unopened_named, work_named}

-- what is known of each event of a server
pub record Serves (S V : Type 0) : Type 0 where
  pub tick : (w : Moved) (setting : Setting S V) (world : World S V) (moment : ℕ) → Reached w → AreServersIn w world → AreOrdered world.server.sessions world.server.jobs
      → DrawsWords (at_server setting) → AreKeptSmall world.server.sessions world.server.jobs → Fresh (serves setting (Tick moment) world) → Leads w (λ later. HasServed later world (serves setting (Tick moment) world))
  pub work : (w : Moved) (setting : Setting S V) (world : World S V) (moment place : ℕ) → Reached w → AreServersIn w world → AreOrdered world.server.sessions world.server.jobs
      → DrawsWords (at_server setting) → GivesReplies setting.serve → AreKeptSmall world.server.sessions world.server.jobs → Fresh (serves setting (Work moment place) world) → Leads w (λ later. HasServed later world (serves setting (Work moment place) world))
  pub attach : (w : Moved) (setting : Setting S V) (world : World S V) (moment : ℕ) (name : Name) → Reached w → AreServersIn w world → AreOrdered world.server.sessions world.server.jobs
      → DrawsWords (at_server setting) → AreKeptSmall world.server.sessions world.server.jobs → Fresh (serves setting (Attach moment name) world) → Leads w (λ later. HasServed later world (serves setting (Attach moment name) world))
  pub loss : (w : Moved) (setting : Setting S V) (world : World S V) (name : Name) → AreServersIn w world
      → Leads w (λ later. HasServed later world (serves setting (Loss name) world))
  pub restart : (w : Moved) (setting : Setting S V) (world : World S V) → Reached w → AreServersIn w world → Leads w (λ later. HasServed later world (serves setting Restart world))
  pub unopened : (w : Moved) (setting : Setting S V) (world : World S V) (moment : ℕ) → AreServersIn w world → HasServed w world (serves setting (Comes moment None) world)
  pub packet : (w : Moved) (setting : Setting S V) (world : World S V) (moment : ℕ) (envelope : Heard) → Reached w → AreServersIn w world
      → AreOrdered world.server.sessions world.server.jobs → DrawsWords (at_server setting) → IsSmallEnvelope envelope
      → AreKeptSmall world.server.sessions world.server.jobs → Fresh (serves setting (Comes moment (Some envelope)) world) → IsPacketUp w.ups envelope
      → ((other : Session) → Contains world.server.sessions other → other.number ≡ envelope.session → other.key ≡ envelope.key)
      → Leads w (λ later. HasServed later world (serves setting (Comes moment (Some envelope)) world))
  pub kept : (setting : Setting S V) (course : Course S V) (event : ServerEvent) → Fits setting → HasSmallEnvelope event → AreKeptSmall course.server.sessions course.server.jobs
      → AreKeptSmall (after_event (at_server setting) setting.serve setting.fresh course event).server.sessions (after_event (at_server setting) setting.serve setting.fresh course event).server.jobs
  pub whole : (setting : Setting S V) (course : Course S V) (event : ServerEvent) → Fits setting → HasSmallEnvelope event → AreKeptSmall course.server.sessions course.server.jobs
      → AllByRecursion IsWholeSent course.packets → AllByRecursion IsWholeSent (after_event (at_server setting) setting.serve setting.fresh course event).packets

-- what went out is what a client reads
abbrev pub Reads : Type 0
Reads = (w : Moved) (sealed : Envelope) → length sealed.body ≤ bytes_max → (begins_container sealed.body ≡ true → (parts : List Message) × IsContainer sealed.number parts sealed.body)
    → (went : WentOut w (as_heard sealed)) → Contains w.downs (record { server = went.unique; items = packet_items sealed })

-- a packet down is whole
abbrev IsWholeDown : Packet → Type 0
IsWholeDown packet = IsWhole (as_heard packet.envelope)

module _ {S V : Type 0} (known : Moving) (still : Still) (alone : Themselves S) (serving : Serves S V)
    (keeps_order : (setting : Setting S V) (course : Course S V) (event : ServerEvent) → AreOrdered course.server.sessions course.server.jobs
    → AreOrdered (after_event (at_server setting) setting.serve setting.fresh course event).server.sessions (after_event (at_server setting) setting.serve setting.fresh course event).server.jobs)
    (read : Reads) (lock : Lock) (ring : List RingKey) (seals : OpensWhatItSealed lock) (setting : Setting S V) (w : Moved) (world : World S V) (h : WorldStands w world) where
  still_seated : (list : List Move) → AreLawful w list → All IsOfServers list → (i : ℕ) (found : Option Seat) → IsSeated w i found → IsSeated (after_all w list) i found
  still_seated list lawful own i None n = nobody_by_servers known w i list own n
  still_seated list lawful own i (Some seat) s = still.servers w i list seat.client h.reached lawful own s

  abbrev pub Says : World S V → Type 0
  Says behind = AreLawfulPackets lock ring setting behind × Fits setting

  short_body : (packet : Packet) → IsSealedPacket lock ring setting packet → length packet.envelope.body ≤ bytes_max
  short_body packet sealed =
      omega (arith, seals.size ring packet.dir packet.envelope packet.padding (bytes_of setting packet) sealed, sealed.fits)

  down_bagged : (v : Moved) (packet : Packet) → IsSealedPacket lock ring setting packet → IsWhole (as_heard packet.envelope) → packet.dir ≡ Down → WentOut v (as_heard packet.envelope) → IsBagged v world.seats packet
  down_bagged v packet sealed whole way went =
      subst (λ (d : Dir). IsThere v world.seats d packet.envelope) (sym way) (record {
        unique = went.unique;
        made = went.made;
        session = went.session;
        there = read v packet.envelope (short_body packet sealed) (λ begins. (whole.group, whole.whole sealed.lawful.number sealed.lawful.seq begins)) went;
      })

  all_bagged : (v : Moved) (packets : List Packet) → AllByRecursion (IsSealedPacket lock ring setting) packets → AllByRecursion IsWholeDown packets
      → AllByRecursion (λ (packet : Packet). (packet.dir ≡ Down) × WentOut v (as_heard packet.envelope)) packets → AllByRecursion (IsBagged v world.seats) packets
  all_bagged v [] sealed whole went = tt
  all_bagged v (packet ∷ packets) sealed whole went = (down_bagged v packet sealed.0 whole.0 went.0.0 went.0.1, all_bagged v packets sealed.1 whole.1 went.1)

  whole_down : (sent : List Sent) → AllByRecursion IsWholeSent sent → AllByRecursion IsWholeDown (map sent_down sent)
  whole_down [] all = tt
  whole_down (one ∷ sent) all =
      let its = all.0 in (
        record {
          group = its.group;
          body = its.body;
          messages = its.messages;
          key = its.key;
          salt = its.salt;
          session = its.session;
          bytes = its.bytes;
          words = its.words;
          short = its.short;
          whole = its.whole;
        },
        whole_down sent all.1,
      )

  -- what joined the bag is one list
  same_part : (packets others : List Packet) → world.bag ++ others ≡ world.bag ++ packets → others ≡ packets
  same_part packets others is =
      sym (drop_at world.bag others (length world.bag) refl) ∙ ap (λ (bag : List Packet). drop (length world.bag) bag) is ∙ drop_at world.bag packets (length world.bag) refl

  last_part : (bag packets : List Packet) → AllByRecursion (IsSealedPacket lock ring setting) (bag ++ packets) → AllByRecursion (IsSealedPacket lock ring setting) packets
  last_part [] packets all = all
  last_part (packet ∷ bag) packets all = last_part bag packets all.1

  module _ (event : ServerEvent) where
    by_leads : HasSmallEnvelope event → AreLawfulPackets lock ring setting (serves setting event world) × Fits setting → (l : Leads w (λ later. HasServed later world (serves setting event world)))
        → ((P : ℕ → ℕ → Type 0) → AllByRecursion (λ (session : Session). P session.number session.key) (lives world)
        → ((n k : ℕ) → IsKeyOf w world.seats n k → P n k)
        → AllByRecursion (λ (session : Session). P session.number session.key) (lives (serves setting event world)))
        → WorldStands (after_all w l.moves) (serves setting event world)
    by_leads fit lawful l names =
        let v : Moved = after_all w l.moves in
        let extends : Extends w v = known.extends w l.moves l.lawful in
        let key_on : (n k : ℕ) → IsKeyOf w world.seats n k → IsKeyOf v world.seats n k =
        λ n k. key_still w v world.seats world.seats extends (keys_same world.seats) h.seats (λ c s. known.owned w l.moves c s l.lawful) n k in
        let served : HasServed v world (serves setting event world) = l.gives in
        let done : Course S V = after_event (at_server setting) setting.serve setting.fresh (course_in world) event in
        record {
          reached = known.reached w l.moves h.reached l.lawful;
          seats = λ i. still_seated l.moves l.lawful l.own i (slice_get world.seats i) (h.seats i);
          server = served.stands;
          ordered = keeps_order setting (course_in world) event h.ordered;
          keys = names (IsKeyOf v world.seats)
              (map_all (λ (session : Session). IsKeyOf w world.seats session.number session.key) (λ (session : Session). IsKeyOf v world.seats session.number session.key) (lives world)
              (λ session is its. key_on session.number session.key its) h.keys) key_on;
          bag = subst (λ (bag : List Packet). AllByRecursion (IsBagged v world.seats) bag) (sym served.bag)
              (all_append (IsBagged v world.seats) world.bag served.packets
              (bag_still w v world.seats world.seats extends (keys_same world.seats) h.seats (λ c s. known.owned w l.moves c s l.lawful) world.bag h.bag)
              (all_bagged v served.packets
              (last_part world.bag served.packets (subst (λ (bag : List Packet). AllByRecursion (IsSealedPacket lock ring setting) bag) served.bag lawful.0))
              (subst (λ (packets : List Packet). AllByRecursion IsWholeDown packets) (same_part served.packets (map sent_down done.packets) served.bag)
              (whole_down done.packets (serving.whole setting (course_in world) event lawful.1 fit h.kept tt))) served.down));
          kept = serving.kept setting (course_in world) event lawful.1 fit h.kept;
        }

    leads : HasSmallEnvelope event → AreLawfulPackets lock ring setting (serves setting event world) × Fits setting → (l : Leads w (λ later. HasServed later world (serves setting event world)))
        → ((P : ℕ → ℕ → Type 0) → AllByRecursion (λ (session : Session). P session.number session.key) (lives world)
        → ((n k : ℕ) → IsKeyOf w world.seats n k → P n k)
        → AllByRecursion (λ (session : Session). P session.number session.key) (lives (serves setting event world))) → MovesOn w (serves setting event world)
    leads fit lawful l names = (l.moves, l.lawful, by_leads fit lawful l names)

  pub ticked : Fresh (serves setting (Tick world.clock) world) → Says (serves setting (Tick world.clock) world) → MovesOn w (serves setting (Tick world.clock) world)
  ticked fresh plain =
      leads (Tick world.clock) tt plain (serving.tick w setting world world.clock h.reached h.server h.ordered plain.1.words h.kept fresh) (λ P all keys. tick_named P alone setting world all world.clock)

  pub worked : (place : ℕ) → Fresh (serves setting (Work world.clock place) world) → Says (serves setting (Work world.clock place) world) → MovesOn w (serves setting (Work world.clock place) world)
  worked place fresh plain =
      leads (Work world.clock place) tt plain (serving.work w setting world world.clock place h.reached h.server h.ordered plain.1.words plain.1.replies h.kept fresh)
      (λ P all keys. work_named P alone setting world all world.clock place)

  pub attached : (name : Name) → Fresh (serves setting (Attach world.clock name) world) → Says (serves setting (Attach world.clock name) world) → MovesOn w (serves setting (Attach world.clock name) world)
  attached name fresh plain =
      leads (Attach world.clock name) tt plain (serving.attach w setting world world.clock name h.reached h.server h.ordered plain.1.words h.kept fresh)
      (λ P all keys. attach_named P alone setting world all world.clock name)

  pub lost : (name : Name) → Says (serves setting (Loss name) world) → MovesOn w (serves setting (Loss name) world)
  lost name plain = leads (Loss name) tt plain (serving.loss w setting world name h.server) (λ P all keys. loss_named P alone setting world all name)

  pub restarted : Says (record (serves setting Restart world) { start = suc world.start }) → MovesOn w (record (serves setting Restart world) { start = suc world.start })
  restarted plain =
      let l = serving.restart w setting world h.reached h.server in
      let s = by_leads Restart tt plain l (λ P all keys. restart_named P alone setting world all) in
      (l.moves, l.lawful, record { reached = s.reached; seats = s.seats; server = s.server; ordered = s.ordered; keys = s.keys; bag = s.bag; kept = s.kept })

  -- ---- a packet

  pub unopened : Says (serves setting (Comes world.clock None) world) → MovesOn w (serves setting (Comes world.clock None) world)
  unopened plain =
      leads (Comes world.clock None) tt plain (record { moves = []; lawful = tt; own = λ j d below. absurd (omega arith); gives = serving.unopened w setting world world.clock h.server })
      (λ P all keys. unopened_named P alone setting world all world.clock)

  one_key : (envelope : Envelope) → IsKeyOf w world.seats envelope.session envelope.key → (other : Session) → Contains (lives world) other → other.number ≡ envelope.session → other.key ≡ envelope.key
  one_key envelope its other among same =
      let k = each_of (λ (session : Session). IsKeyOf w world.seats session.number session.key) (lives world) h.keys other among in
      let owns : Owns (w.clients its.place) other.number = subst (λ (n : ℕ). Owns (w.clients its.place) n) (sym same) its.owned in
      let one : k.place ≡ its.place = known.one_owner w k.place its.place other.number h.reached k.owned owns in
      let both : Some other.key ≡ Some envelope.key = sym k.holds ∙ ap (λ (p : ℕ). key_at p world.seats) one ∙ its.holds in
      cc

  pub opened : (envelope : Envelope) → (IsPacketUp w.ups (as_heard envelope) × IsKeyOf w world.seats envelope.session envelope.key) × IsSmallEnvelope (as_heard envelope)
      → Fresh (serves setting (Comes world.clock (Some (as_heard envelope))) world) → Says (serves setting (Comes world.clock (Some (as_heard envelope))) world)
      → MovesOn w (serves setting (Comes world.clock (Some (as_heard envelope))) world)
  opened envelope its fresh plain =
      leads (Comes world.clock (Some (as_heard envelope))) its.1 plain
      (serving.packet w setting world world.clock (as_heard envelope) h.reached h.server h.ordered plain.1.words its.1 h.kept fresh its.0.0
      (λ other among same. one_key envelope its.0.1 other (Contains-append_right world.lost world.server.sessions other among) same))
      (λ P all keys. packet_named P alone setting world all world.clock (as_heard envelope) (keys envelope.session envelope.key its.0.1))

  by_opening : (found : Option Envelope) → ((envelope : Envelope) → found ≡ Some envelope → (IsPacketUp w.ups (as_heard envelope) × IsKeyOf w world.seats envelope.session envelope.key) × IsSmallEnvelope (as_heard envelope))
      → Fresh (serves setting (Comes world.clock (option_map as_heard found)) world) → Says (serves setting (Comes world.clock (option_map as_heard found)) world)
      → MovesOn w (serves setting (Comes world.clock (option_map as_heard found)) world)
  by_opening None so fresh plain = unopened plain
  by_opening (Some envelope) so fresh plain = opened envelope (so envelope refl) fresh plain

  pub came_up : (bytes : List ℕ) → ((envelope : Envelope) → setting.opens (server_now world) Up bytes ≡ Some envelope → (IsPacketUp w.ups (as_heard envelope) × IsKeyOf w world.seats envelope.session envelope.key) × IsSmallEnvelope (as_heard envelope))
      → Fresh (comes_up setting bytes world) → Says (comes_up setting bytes world) → MovesOn w (comes_up setting bytes world)
  came_up bytes so fresh plain = by_opening (setting.opens (server_now world) Up bytes) so fresh plain
