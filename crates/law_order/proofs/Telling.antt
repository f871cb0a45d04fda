-- Each event of a world keeps that a server says no notice 19, where the packets tell containers' numbers apart.
use Rattle.std.proofs.Common.{◌≡◌, suc, ℕ, Option, Some, None, List, map, refl}
use Rattle.std.specs.Prelude.{option_map}
use Rattle.std.specs.List.{AllByRecursion}
use Rattle.envelope.specs.declared.parts.Dir.TheVariants.{Up, Down}
use Rattle.envelope.specs.declared.parts.Envelope.{Envelope}
use Rattle.server_rules.specs.Event.{Sent}
use Rattle.server_rules.specs.Events.{Attach, Course, Event as ServerEvent, Loss, Packet as Comes, Restart, Tick, Work, after_event}
use Rattle.client_rules.specs.Flush.{Answer, Nothing, Sends, Spent}
use Rattle.law_order.specs.Apart.{AreQuiet, AreSessionsOf, IsEventOf, IsPacketOf, IsQuietBody, Kinds}
use Rattle.world_rules.specs.Setting.{Setting, as_heard, at_server}
use Rattle.world_rules.specs.World.{Packet, World, server_now}
use Rattle.world_rules.specs.Ends.{comes_up, course_in, flushed_at, sent_down, sent_up, serves}
use Rattle.law_once.specs.Made.{IsShort}
use Rattle.law_order.specs.Numbers.{IsQuietPacket}
use Rattle.law_order.proofs.Lists.{all-append, all-front, all-map}
use Rattle.law_order.proofs.Walking.{IsNoPacket, Walk}

-- each packet up that may open is what is told
abbrev pub ArePacketsOf : Kinds → List Packet → Type 0
ArePacketsOf kinds bag = AllByRecursion (λ packet. packet.dir ≡ Up → IsShort packet.envelope → IsPacketOf kinds (as_heard packet.envelope)) bag

abbrev pub IsTold : {S V : Type 0} → World S V → Type 0
IsTold world = (kinds : Kinds) → ArePacketsOf kinds world.bag → AreSessionsOf kinds world.server.sessions × AllByRecursion IsQuietPacket world.bag

-- what is known of a server
abbrev pub Serves : (S V : Type 0) → Setting S V → Type 0
Serves S V setting =
    (kinds : Kinds) (course : Course S V) (event : ServerEvent) → IsEventOf kinds event → AreSessionsOf kinds course.server.sessions → AreQuiet course.packets
    → AreSessionsOf kinds (after_event (at_server setting) setting.serve setting.fresh course event).server.sessions
    × AreQuiet (after_event (at_server setting) setting.serve setting.fresh course event).packets

not-down : Up ≡ Down → ⊥
not-down is = cc

up-quiet : (answer : Answer) → AllByRecursion IsQuietPacket (sent_up answer)
up-quiet Nothing = tt
up-quiet Spent = tt
up-quiet (Sends packet) = ((λ down. absurd (not-down down)), tt)

-- what bytes that come up open to is what is told, where the packets are
abbrev pub Opened : {S V : Type 0} → Setting S V → World S V → List ℕ → Type 0
Opened setting world bytes =
    (kinds : Kinds) → ArePacketsOf kinds world.bag → (envelope : Envelope) → setting.opens (server_now world) Up bytes ≡ Some envelope → IsPacketOf kinds (as_heard envelope)

module _ {S V : Type 0} (setting : Setting S V) (known : Serves S V setting) (world : World S V) (told : IsTold world) where
  served-told : (event : ServerEvent) → ((kinds : Kinds) → ArePacketsOf kinds world.bag → IsEventOf kinds event) → IsTold (serves setting event world)
  served-told event so kinds are =
      let done = after_event (at_server setting) setting.serve setting.fresh (course_in world) event in
      let before = all-front _ world.bag (map sent_down done.packets) are in
      let was = told kinds before in
      let is = known kinds (course_in world) event (so kinds before) was.0 tt in (
        is.0,
        all-append IsQuietPacket world.bag (map sent_down done.packets) was.1
            (all-map (λ (sent : Sent). IsQuietBody sent.envelope.body) IsQuietPacket sent_down done.packets (λ sent quiet down. quiet) is.1),
      )

  again-told : IsTold (serves setting Restart world) → IsTold (record (serves setting Restart world) { start = suc world.start })
  again-told told kinds are = told kinds are

  came-told : (bytes : List ℕ) → Opened setting world bytes → IsTold (comes_up setting bytes world)
  came-told bytes opened =
      served-told (Comes world.clock (option_map as_heard (setting.opens (server_now world) Up bytes)))
      (λ kinds are. by (setting.opens (server_now world) Up bytes) kinds (opened kinds are)) where
        by : (found : Option Envelope) (kinds : Kinds) → ((envelope : Envelope) → found ≡ Some envelope → IsPacketOf kinds (as_heard envelope))
            → IsEventOf kinds (Comes world.clock (option_map as_heard found))
        by None kinds so = tt
        by (Some envelope) kinds so = so envelope refl

  no-packet : (kinds : Kinds) (event : ServerEvent) → IsNoPacket event → IsEventOf kinds event
  no-packet kinds (Comes moment envelope) quiet = absurd quiet
  no-packet kinds (Work moment place) quiet = tt
  no-packet kinds (Tick moment) quiet = tt
  no-packet kinds (Attach moment name) quiet = tt
  no-packet kinds (Loss name) quiet = tt
  no-packet kinds Restart quiet = tt

  pub told-walk : Walk S V setting world IsTold (Opened setting world)
  told-walk = record {
    still = told;
    joined = λ key temporary idle kinds are. told kinds are;
    all_set = λ moment kinds are. told kinds are;
    server_set = λ moment kinds are. told kinds are;
    one_set = λ number moment kinds are. told kinds are;
    acted = λ number seat is wish wished kinds are. told kinds are;
    flushed = λ number seat is kinds are.
        let sent = sent_up (flushed_at setting seat world).answer in
        let was = told kinds (all-front _ world.bag sent are) in
        (was.0, all-append IsQuietPacket world.bag sent was.1 (up-quiet (flushed_at setting seat world).answer));
    served = λ event quiet. served-told event (λ kinds are. no-packet kinds event quiet);
    again = again-told (served-told Restart (λ kinds are. tt));
    came = came-told;
  }
