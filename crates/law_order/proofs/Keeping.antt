-- Each event of a world keeps the order of calls.
use Rattle.std.proofs.Common.{◌≡◌, ◌∙◌, zero, suc, ℕ, Option, Some, None, List, [], ◌∷◌, ◌++◌, map, refl, sym, ap, subst}
use Rattle.std.specs.Prelude.{option_map, slice_get, IfSome}
use Rattle.std.specs.List.{AllByRecursion}
use Rattle.std.proofs.lemmas.List.{append-nil}
use Rattle.envelope.specs.declared.parts.Dir.TheVariants.{Up, Down}
use Rattle.envelope.specs.declared.parts.Envelope.{Envelope}
use Rattle.msg_ids.specs.Moments.{moment_of}
use Rattle.call_table.specs.Table.{Call}
use Rattle.server_rules.specs.Event.{Entry}
use Rattle.server_rules.specs.Events.{Attach, Course, Event as ServerEvent, Loss, Packet as Comes, Restart, Tick, Work, after_event}
use Rattle.client_rules.specs.Client.{Asked, Binding, Bound, Client, Held, Needed, Refused, Temporary, calls_of}
use Rattle.client_rules.specs.Events.{Run, made, step}
use Rattle.client_rules.specs.Events as wishes
use Rattle.client_rules.specs.Flush.{Answer, Nothing, Sends, Spent, flush}
use Rattle.law_moves.specs.World.{World as Moved}
use Rattle.law_moves.specs.Table as moves
use Rattle.law_client.specs.Clients.{IsAskedThere, StandsAs}
use Rattle.law_order.specs.After.{AreInTurn, IsEventFor, IsPacketFor, Pair}
use Rattle.law_order.specs.Behind.{KeepsTurn, Last}
use Rattle.law_order.specs.Going.{IsAnswerFrom, IsAskedBy, IsPacketFrom, IsReady}
use Rattle.world_rules.specs.Setting.{Setting, as_heard, at_client, at_server}
use Rattle.world_rules.specs.World.{Entered, Seat, World, changed_at, counted, server_now}
use Rattle.world_rules.specs.Ends.{acts, comes_up, course_in, flushed_at, flushes, seat_changed, sent_down, sent_up, serves}
use Rattle.world_rules.specs.Run.{joins, set}
use Rattle.law_once.specs.Standing.{AreSeated, IsSeated, WorldStands}
use Rattle.law_order.specs.Keeping.{ArePacketsFor, AreTurning, IsUpFrom, KeepsOrder, entries_in}
use Rattle.law_order.proofs.Lists.{all-append, all-front, all-made, map-append, map-back, none-some, some-same}
use Rattle.law_order.proofs.Places.{all-at}
use Rattle.law_order.proofs.Seats.{GoOn, IsLater, bag-later, changed-at, changed-go, changed-turning, more-go, set-go, set-later, set-turning}
use Rattle.law_order.proofs.Walking.{IsNoPacket, Walk}

-- what is known of each end
pub record Ends (S V : Type 0) (setting : Setting S V) : Type 0 where
  pub made : (key : ℕ) (temporary : Option Temporary) (draw : S) → KeepsTurn (wishes.made (at_client setting) key temporary draw).client
  pub turn : (run : Run S) (event : wishes.Event) → KeepsTurn run.client → KeepsTurn (step (at_client setting) run event).client
  pub key : (run : Run S) (event : wishes.Event) → KeepsTurn run.client → (step (at_client setting) run event).client.key ≡ run.client.key
  pub calls : (run : Run S) (event : wishes.Event) → KeepsTurn run.client → Last (calls_of run.client) (calls_of (step (at_client setting) run event).client)
  pub packets : (calls later : List Call) (envelope : Envelope) → Last calls later → IsPacketFrom calls envelope → IsPacketFrom later envelope
  pub sends : (now : ℕ) (client : Client) (draw : S) → KeepsTurn client → IsReady client
      → IsAnswerFrom (calls_of (flush (at_client setting) now client draw).client) (flush (at_client setting) now client draw).answer
  pub serves : (pair : Pair) (past : List Entry) (course : Course S V) (event : ServerEvent) → IsEventFor pair event
      → AreInTurn pair course.server.sessions course.server.jobs (past ++ course.entries)
      → AreInTurn pair (after_event (at_server setting) setting.serve setting.fresh course event).server.sessions
      (after_event (at_server setting) setting.serve setting.fresh course event).server.jobs
      (past ++ (after_event (at_server setting) setting.serve setting.fresh course event).entries)

counted-turn : (seats : List Seat) (number : ℕ) (seat : Seat) → counted number seats ≡ Some seat → AreTurning seats → KeepsTurn seat.client
counted-turn seats zero seat is are = absurd (none-some seat is)
counted-turn seats (suc place) seat is are = all-at (λ (seat : Seat). KeepsTurn seat.client) seats place seat is are

seated-so : (w : Moved) (place : ℕ) (found : Option Seat) (seat : Seat) → found ≡ Some seat → IsSeated w place found → StandsAs w place seat.client
seated-so w place None seat is stands = absurd (none-some seat is)
seated-so w place (Some one) seat is stands = subst (λ (seat : Seat). StandsAs w place seat.client) (some-same one seat is) stands

asked-by : (ups : List moves.Message) (client : Client) (binding : Binding) → IsAskedThere ups client binding → IsAskedBy binding
asked-by ups client (Asked message) asked = asked.1
asked-by ups client Needed asked = tt
asked-by ups client Held asked = tt
asked-by ups client Bound asked = tt
asked-by ups client (Refused code) asked = tt

asked-so : (ups : List moves.Message) (client : Client) (temporary : Option Temporary) → IfSome temporary (λ (t : Temporary). IsAskedThere ups client t.binding)
    → IfSome temporary (λ (t : Temporary). IsAskedBy t.binding)
asked-so ups client None asked = tt
asked-so ups client (Some temporary) asked = asked-by ups client temporary.binding asked

-- a client that stands in a world of the law is ready
ready-so : (w : Moved) (seats : List Seat) (number : ℕ) (seat : Seat) → counted number seats ≡ Some seat → AreSeated w seats → IsReady seat.client
ready-so w seats zero seat is seated = absurd (none-some seat is)
ready-so w seats (suc place) seat is seated =
    let s = seated-so w place (slice_get seats place) seat is (seated place) in
    record { short = s.short; asked = asked-so w.ups seat.client seat.client.temporary s.asked }

module _ {S V : Type 0} (setting : Setting S V) (ends : Ends S V setting) (world : World S V) (kept : KeepsOrder world) where
  joined-kept : (key : ℕ) (temporary : Option Temporary) → KeepsOrder (joins setting key temporary world)
  joined-kept key temporary =
      let new : Seat = record { client = (wishes.made (at_client setting) key temporary world.draw).client; clock = 0 } in
      record {
        clients = all-append (λ (seat : Seat). KeepsTurn seat.client) world.seats (new ∷ []) kept.clients (ends.made key temporary world.draw, tt);
        bag = bag-later ends.packets world.seats (world.seats ++ new ∷ []) (more-go world.seats (new ∷ [])) world.bag kept.bag;
        served = kept.served;
      }

  all_set-kept : (moment : ℕ) → KeepsOrder (record world { clock = moment; seats = map (set moment) world.seats })
  all_set-kept moment = record {
    clients = set-turning world.seats moment kept.clients;
    bag = bag-later ends.packets world.seats (map (set moment) world.seats) (set-go world.seats moment) world.bag kept.bag;
    served = kept.served;
  }

  one_set-kept : (number moment : ℕ) → KeepsOrder (record world { seats = changed_at number (set moment) world.seats })
  one_set-kept number moment = record {
    clients = changed-turning world.seats number (set moment) (λ seat is turn. turn) kept.clients;
    bag =
        bag-later ends.packets world.seats (changed_at number (set moment) world.seats) (changed-go world.seats number (set moment) (λ seat is. set-later moment seat)) world.bag
        kept.bag;
    served = kept.served;
  }

  -- a client did something
  module _ (number : ℕ) (seat : Seat) (is : counted number world.seats ≡ Some seat) (wish : wishes.Event) where
    run : Run S
    run = record { client = seat.client; draw = world.draw }

    abbrev later : Client
    later = (step (at_client setting) (record { client = seat.client; draw = world.draw }) wish).client

    turn : KeepsTurn seat.client
    turn = counted-turn world.seats number seat is kept.clients

    pub go : GoOn world.seats (seat_changed number later world.seats)
    go =
        changed-go world.seats number (λ seat. record seat { client = later })
        (λ one at.
        subst (λ (one : Seat). IsLater one (record one { client = later })) (some-same seat one (sym is ∙ at))
        (record {
          key = ends.key (record { client = seat.client; draw = world.draw }) wish turn;
          last = ends.calls (record { client = seat.client; draw = world.draw }) wish turn;
        }))

    pub turned : AreTurning (seat_changed number later world.seats)
    turned =
        changed-turning world.seats number (λ seat. record seat { client = later })
        (λ one at its. ends.turn (record { client = seat.client; draw = world.draw }) wish turn) kept.clients

    pub acted-kept : KeepsOrder (acts setting number seat wish world)
    acted-kept = record {
      clients = turned;
      bag = bag-later ends.packets world.seats (seat_changed number later world.seats) go world.bag kept.bag;
      served = kept.served;
    }

  flushed-kept : (w : Moved) → WorldStands w world → (number : ℕ) (seat : Seat) → counted number world.seats ≡ Some seat → KeepsOrder (flushes setting number seat world)
  flushed-kept w stands number seat is =
      let done = flushed_at setting seat world in
      let wish = wishes.Flush (moment_of seat.clock) in
      let seats = seat_changed number done.client world.seats in
      let at = changed-at world.seats number (λ seat. record seat { client = done.client }) seat is in
      let sent = ends.sends (moment_of seat.clock) seat.client world.draw (turn number seat is wish) (ready-so w world.seats number seat is stands.seats) in
      record {
        clients = turned number seat is wish;
        bag =
            all-append (IsUpFrom seats) world.bag (sent_up done.answer)
            (bag-later ends.packets world.seats seats (go number seat is wish) world.bag kept.bag)
            (went seats at.0 (record seat { client = done.client }) at.1 done.answer sent);
        served = λ pair are. kept.served pair (all-front _ world.bag (sent_up done.answer) are);
      } where
        went : (seats : List Seat) (place : ℕ) (one : Seat) → slice_get seats place ≡ Some one → (answer : Answer) → IsAnswerFrom (calls_of one.client) answer
            → AllByRecursion (IsUpFrom seats) (sent_up answer)
        went seats place one there Nothing from = tt
        went seats place one there Spent from = tt
        went seats place one there (Sends packet) from = (λ up. record { seat = one; place = place; there = there; from = from }, tt)

  -- the server did something
  no-up : Down ≡ Up → ⊥
  no-up is = cc

  served-kept : (event : ServerEvent) → ((pair : Pair) → ArePacketsFor pair world.bag → IsEventFor pair event) → KeepsOrder (serves setting event world)
  served-kept event so =
      let done = after_event (at_server setting) setting.serve setting.fresh (course_in world) event in
      let past = entries_in world in
      let mark : Entry → Entered = λ entry. record { start = world.start; entry = entry } in
      let all : past ++ done.entries ≡ map (λ (entered : Entered). entered.entry) (world.entries ++ map mark done.entries) =
      sym (map-append (λ (entered : Entered). entered.entry) world.entries (map mark done.entries)
      ∙ ap (λ (rest : List Entry). past ++ rest) (map-back (λ (entered : Entered). entered.entry) mark done.entries (λ entry. refl))) in
      record {
        clients = kept.clients;
        bag =
            all-append (IsUpFrom world.seats) world.bag (map sent_down done.packets) kept.bag
            (all-made (IsUpFrom world.seats) sent_down done.packets (λ sent up. absurd (no-up up)));
        served = λ pair are.
            let front = all-front _ world.bag (map sent_down done.packets) are in
            subst (AreInTurn pair done.server.sessions done.server.jobs) all
            (ends.serves pair past (course_in world) event (so pair front)
            (subst (AreInTurn pair world.server.sessions world.server.jobs) (sym (append-nil past)) (kept.served pair front)));
      }

  again-kept : KeepsOrder (serves setting Restart world) → KeepsOrder (record (serves setting Restart world) { start = suc world.start })
  again-kept k = record { clients = k.clients; bag = k.bag; served = k.served }

  -- what bytes that come up open to is for each pair for which the packets are
  abbrev pub Opened : List ℕ → Type 0
  Opened bytes = (pair : Pair) → ArePacketsFor pair world.bag → (envelope : Envelope) → setting.opens (server_now world) Up bytes ≡ Some envelope → IsPacketFor pair (as_heard envelope)

  came-kept : (bytes : List ℕ) → Opened bytes → KeepsOrder (comes_up setting bytes world)
  came-kept bytes opened =
      served-kept (Comes world.clock (option_map as_heard (setting.opens (server_now world) Up bytes)))
      (λ pair are. by (setting.opens (server_now world) Up bytes) pair (opened pair are)) where
        by : (found : Option Envelope) (pair : Pair) → ((envelope : Envelope) → found ≡ Some envelope → IsPacketFor pair (as_heard envelope))
            → IsEventFor pair (Comes world.clock (option_map as_heard found))
        by None pair so = tt
        by (Some envelope) pair so = so envelope refl

  no-packet : (pair : Pair) (event : ServerEvent) → IsNoPacket event → IsEventFor pair event
  no-packet pair (Comes moment envelope) quiet = absurd quiet
  no-packet pair (Work moment place) quiet = tt
  no-packet pair (Tick moment) quiet = tt
  no-packet pair (Attach moment name) quiet = tt
  no-packet pair (Loss name) quiet = tt
  no-packet pair Restart quiet = tt

  pub walk : (w : Moved) → WorldStands w world → Walk S V setting world KeepsOrder Opened
  walk w stands = record {
    still = kept;
    joined = λ key temporary idle. joined-kept key temporary;
    all_set = all_set-kept;
    server_set = λ moment. record { clients = kept.clients; bag = kept.bag; served = kept.served };
    one_set = one_set-kept;
    acted = λ number seat is wish wished. acted-kept number seat is wish;
    flushed = flushed-kept w stands;
    served = λ event quiet. served-kept event (λ pair are. no-packet pair event quiet);
    again = again-kept (served-kept Restart (λ pair are. tt));
    came = came-kept;
  }
