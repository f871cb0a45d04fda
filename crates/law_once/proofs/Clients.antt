-- An event of a client, in a world.
use Rattle.std.proofs.Common.{◌≡◌, ◌≢◌, ℕ, zero, suc, ◌==◌, true, false, List, [], ◌∷◌, ◌++◌, Option, Some, None, inl, inr, refl, sym, ap, subst, ◌∙◌, arith, eq-eqb}
use Rattle.std.specs.Prelude.{◌&&◌, is_none, option_map, slice_get}
use Rattle.std.specs.List.{All, AllByRecursion, Contains, flat_map}
use Rattle.std.proofs.lemmas.Bool.{and_parts, cases_Bool, cases_eq, cond_both, eqb-true}
use Rattle.draws.specs.Draws.{draw_after, word_after}
use Rattle.msg_ids.specs.Moments.{moment_of}
use Rattle.envelope.specs.declared.parts.Envelope.{Envelope}
use Rattle.law_moves.specs.Table as moves
use Rattle.law_moves.specs.World.{Owns, World as Moved}
use Rattle.law_moves.specs.Move.{Move}
use Rattle.law_moves.specs.Move.Move.{Own}
use Rattle.law_moves.specs.Move.OwnAct.{End, NewClient, Renew, Submit}
use Rattle.law_moves.specs.After.{after}
use Rattle.law_moves.specs.Extends.{IsOfClient}
use Rattle.law_moves.specs.Lawful.{IsLawful, IsNewSession}
use Rattle.law_moves.specs.Reached.{AreLawful, Reached, after_all}
use Rattle.call_table.specs.declared.call.CallNo.{CallNo}
use Rattle.server_rules.specs.Server.{Session}
use Rattle.client_rules.specs.Client.{Client, fresh_client, temporary_of}
use Rattle.client_rules.specs.Asking.{attached, dropped, pinged, salts_asked, submit_fault, submitted, ticked}
use Rattle.client_rules.specs.Learning.{ended}
use Rattle.client_rules.specs.Events as wishes
use Rattle.client_rules.specs.Events.{renewed, takes, unless_fault}
use Rattle.client_rules.specs.Flush.{Answer, Nothing, Sends, Spent, flush}
use Rattle.client_rules.specs.Sending as client
use Rattle.client_rules.specs.Taking.{is_for, take}
use Rattle.msg_ids.specs.Counters.{is_odd}
use Rattle.law_client.specs.Clients.{IsNobody, StandsAs}
use Rattle.law_client.specs.Leading.{Leads}
use Rattle.law_client.specs.Packets.{packet_items}
use Rattle.law_client.specs.Sent.{IsAnswerSent}
use Rattle.world_rules.specs.Setting.{Setting, at_client}
use Rattle.world_rules.specs.World.{Packet, Seat, World, changed_from_0, lives}
use Rattle.world_rules.specs.Ends.{acts, flushes, seat_changed, sent_up}
use Rattle.world_rules.specs.Premises.{drawn_for_session, names_drawn, sessions_drawn}
use Rattle.law_server_moves.specs.Worlds.{StandsIn as AreServersIn}
use Rattle.law_once.specs.Standing.{AreSeated, MovesOn, IsBagged, IsDown, IsKeyOf, IsSeated, WorldStands, key_at}
use Rattle.law_once.proofs.Lists.{all_append, map_all}
use Rattle.law_once.proofs.Places.{changed_other, changed_there}
use Rattle.law_once.proofs.Counting.{AreFresh, count, count_append}
use Rattle.law_once.proofs.Known.{Moving, Still}
use Rattle.law_once.proofs.Nobody.{nobody_by_client}
use Rattle.law_once.proofs.Lasting.{KeepKeys, bag_still, key_still}
use Rattle.law_once.proofs.Drawn.{flat_changed, new_session}
use Rattle.law_once.proofs.Same.{drops_same, flush_same, submits_same, takes_same}

-- what is known of each event of a client
pub record Acts : Type 0 where
  pub joins : (w : Moved) (number key session : ℕ) → Reached w → IsNobody w number → IsNewSession w session
      → StandsAs (after w (Own (NewClient number session))) number (fresh_client key None session)
  pub joins_so : (w : Moved) (number key session perm expires : ℕ) → Reached w → IsNobody w number → IsNewSession w session
      → StandsAs (after w (Own (NewClient number session))) number (fresh_client key (Some (temporary_of perm expires)) session)
  pub joins_lawfully : (w : Moved) (number key session : ℕ) → IsNobody w number → IsNewSession w session → IsLawful w (Own (NewClient number session))
  pub submits_lawfully : (w : Moved) (number : ℕ) (client : Client) (body : List ℕ) → StandsAs w number client → IsLawful w (Own (Submit number body))
  pub submits : (w : Moved) (number : ℕ) (client : Client) (body : List ℕ) (earlier : Option CallNo) → submit_fault body earlier client ≡ None
      → StandsAs w number client → StandsAs (after w (Own (Submit number body))) number (submitted body earlier client)
  pub attached : (w : Moved) (number : ℕ) (client : Client) → StandsAs w number client → StandsAs w number (attached client)
  pub ticked : (w : Moved) (number : ℕ) (client : Client) → StandsAs w number client → StandsAs w number (ticked client)
  pub pinged : (w : Moved) (number id : ℕ) (client : Client) → StandsAs w number client → StandsAs w number (pinged id client)
  pub salts_asked : (w : Moved) (number count : ℕ) (client : Client) → StandsAs w number client → StandsAs w number (salts_asked count client)
  pub dropped : (w : Moved) (number : ℕ) (call : CallNo) (client : Client) → StandsAs w number client → StandsAs w number (dropped call client)
  pub renews_lawfully : (w : Moved) (number session : ℕ) (client : Client) → StandsAs w number client → IsNewSession w session → IsLawful w (Own (Renew number session))
  pub renews : (w : Moved) (number session : ℕ) (client : Client) → Reached w → StandsAs w number client → IsNewSession w session
      → StandsAs (after w (Own (Renew number session))) number (renewed session client)
  pub ends_lawfully : (w : Moved) (number : ℕ) (client : Client) → StandsAs w number client → IsLawful w (Own (End number))
  pub ends : (w : Moved) (number : ℕ) (client : Client) → StandsAs w number client → StandsAs (after w (Own (End number))) number (ended client)
  pub hears : (w : Moved) (number now : ℕ) (client : Client) (envelope : Envelope) (packet : moves.Packet) → Reached w → StandsAs w number client
      → Contains w.downs packet → (w.servers packet.server).session ≡ client.session → packet.items ≡ packet_items envelope
      → Leads number w (λ later. StandsAs later number (take now envelope client))
  pub passes_over : (w : Moved) (number now : ℕ) (client : Client) (envelope : Envelope) → is_for client envelope ≡ false
      → StandsAs w number client → StandsAs w number (take now envelope client)
  pub unopened : (w : Moved) (number now : ℕ) (client : Client) → StandsAs w number client → StandsAs w number (takes now None client)

abbrev pub Flushes : Type 0 → Type 0
Flushes S = (w : Moved) (setting : client.Setting S) (number now : ℕ) (client : Client) (draw : S) → Reached w → StandsAs w number client
    → Leads number w (λ later. StandsAs later number (flush setting now client draw).client × IsAnswerSent later.ups (flush setting now client draw).answer)

-- servers stand still while a client moves
abbrev pub ServersStill : Type 0 → Type 0 → Type 0
ServersStill S V = (w : Moved) (mover : ℕ) (list : List Move) (world : World S V) → AreLawful w list → All (IsOfClient mover) list → AreServersIn w world
    → AreServersIn (after_all w list) world

-- ---- moves

stays : (number : ℕ) (w : Moved) (P : Moved → Type 0) → P w → Leads number w P
stays number w P holds = record { moves = []; lawful = tt; own = λ k d below. absurd (omega arith); gives = holds }

pub one_own : (P : Move → Type 0) (move : Move) → P move → All P (move ∷ [])
one_own P move holds zero d below = holds
one_own P move holds (suc k) d below = absurd (omega arith)

moves_once : (number : ℕ) (w : Moved) (P : Moved → Type 0) (move : Move) → IsLawful w move → IsOfClient number move → P (after w move) → Leads number w P
moves_once number w P move lawful own holds = record { moves = move ∷ []; lawful = (lawful, tt); own = one_own (IsOfClient number) move own; gives = holds }

none_of : {X : Type 0} (found : Option X) → is_none found ≡ true → found ≡ None
none_of None is = refl
none_of (Some x) is = absurd (cc)

-- ---- one client moves, and the world behind it

module _ {S V : Type 0} (known : Moving) (still : Still) (servers : ServersStill S V) (w : Moved) (world : World S V) (h : WorldStands w world) (place : ℕ) where
  module _ (list : List Move) (lawful : AreLawful w list) (own : All (IsOfClient place) list) where
    abbrev v : Moved
    v = after_all w list

    pub still_seated : (i : ℕ) → i ≢ place → (found : Option Seat) → IsSeated w i found → IsSeated v i found
    still_seated i differs None n = nobody_by_client known w place i list differs own n
    still_seated i differs (Some seat) s = still.clients w place i list seat.client h.reached lawful own differs s

    module _ (seats : List Seat) (keep : KeepKeys world.seats seats) where
      keys_on : AllByRecursion (λ (session : Session). IsKeyOf v seats session.number session.key) (lives world)
      keys_on =
          map_all (λ (session : Session). IsKeyOf w world.seats session.number session.key) (λ (session : Session). IsKeyOf v seats session.number session.key) (lives world)
          (λ session is its. key_still w v world.seats seats (known.extends w list lawful) keep h.seats (λ c s. known.owned w list c s lawful) session.number session.key its) h.keys

      bag_on : AllByRecursion (IsBagged v seats) world.bag
      bag_on = bag_still w v world.seats seats (known.extends w list lawful) keep h.seats (λ c s. known.owned w list c s lawful) world.bag h.bag

      pub goes_on : (draw : S) (bag : List Packet) → AreSeated v seats → AllByRecursion (IsBagged v seats) bag → WorldStands v (record world { seats = seats; draw = draw; bag = bag })
      goes_on draw bag seated bagged = record {
        reached = known.reached w list h.reached lawful;
        seats = seated;
        server = servers w place list world lawful own h.server;
        ordered = h.ordered;
        keys = keys_on;
        bag = bagged;
        kept = h.kept;
      }

  module _ (seat : Seat) (at : slice_get world.seats place ≡ Some seat) where
    stands : StandsAs w place seat.client
    stands = subst (λ (f : Option Seat). IsSeated w place f) at (h.seats place)

    abbrev with_client : Client → List Seat
    with_client client = changed_from_0 place (λ (s : Seat). record s { client = client }) world.seats

    now_there : (client : Client) → slice_get (with_client client) place ≡ Some (record seat { client = client })
    now_there client = changed_there (λ (s : Seat). record s { client = client }) world.seats place ∙ ap (λ (f : Option Seat). option_map (λ (s : Seat). record s { client = client }) f) at

    keep_keys : (client : Client) → client.key ≡ seat.client.key → KeepKeys world.seats (with_client client)
    keep_keys client key i k is =
        elim (cases_eq i place) [
          | inl same ↦
              let was : Some seat.client.key ≡ Some k =
              sym (ap (λ (f : Option Seat). option_map (λ (s : Seat). s.client.key) f) at) ∙ ap (λ (j : ℕ). key_at j world.seats) (sym same) ∙ is in
              ap (λ (j : ℕ). key_at j (with_client client)) same
              ∙ ap (λ (f : Option Seat). option_map (λ (s : Seat). s.client.key) f) (now_there client) ∙ ap (λ (n : ℕ). Some n) key ∙ was
          | inr differs ↦ ap (λ (f : Option Seat). option_map (λ (s : Seat). s.client.key) f) (changed_other (λ (s : Seat). record s { client = client }) world.seats place i differs) ∙ is
        ]

    seats_on : (list : List Move) (lawful : AreLawful w list) (own : All (IsOfClient place) list) (client : Client) → StandsAs (after_all w list) place client
        → AreSeated (after_all w list) (with_client client)
    seats_on list lawful own client its i =
        elim (cases_eq i place) [
          | inl same ↦
              subst (λ (j : ℕ). IsSeated (after_all w list) j (slice_get (with_client client) j)) (sym same)
              (subst (λ (f : Option Seat). IsSeated (after_all w list) place f) (sym (now_there client)) its)
          | inr differs ↦
              subst (λ (f : Option Seat). IsSeated (after_all w list) i f) (sym (changed_other (λ (s : Seat). record s { client = client }) world.seats place i differs))
              (still_seated list lawful own i differs (slice_get world.seats i) (h.seats i))
        ]

    -- it does something, and no packet is made
    pub by_leads : (client : Client) (draw : S) → client.key ≡ seat.client.key → Leads place w (λ later. StandsAs later place client)
        → MovesOn w (record world { seats = seat_changed (suc place) client world.seats; draw = draw })
    by_leads client draw key l = (
      l.moves,
      l.lawful,
      goes_on l.moves l.lawful l.own (with_client client) (keep_keys client key) draw world.bag (seats_on l.moves l.lawful l.own client l.gives)
          (bag_on l.moves l.lawful l.own (with_client client) (keep_keys client key)),
    )

    -- ---- each wish

    module _ (acts_so : Acts) where
      submit_leads : (body : List ℕ) (earlier : Option CallNo) → Leads place w (λ later. StandsAs later place (unless_fault body earlier seat.client))
      submit_leads body earlier =
          cond_both (is_none (submit_fault body earlier seat.client)) (submitted body earlier seat.client) seat.client (λ (c : Client). Leads place w (λ later. StandsAs later place c))
          (λ is. moves_once place w (λ later. StandsAs later place (submitted body earlier seat.client)) (Own (Submit place body)) (acts_so.submits_lawfully w place seat.client body stands) refl
          (acts_so.submits w place seat.client body earlier (none_of (submit_fault body earlier seat.client) is) stands))
          (λ is. stays place w (λ later. StandsAs later place seat.client) stands)

      pub submitted_so : (setting : Setting S V) (body : List ℕ) (earlier : Option CallNo) → MovesOn w (acts setting (suc place) seat (wishes.Submit body earlier) world)
      submitted_so setting body earlier = by_leads (unless_fault body earlier seat.client) world.draw (submits_same body earlier seat.client).0 (submit_leads body earlier)

      pub attached_so : (setting : Setting S V) → MovesOn w (acts setting (suc place) seat wishes.Attach world)
      attached_so setting = by_leads (attached seat.client) world.draw refl (stays place w (λ later. StandsAs later place (attached seat.client)) (acts_so.attached w place seat.client stands))

      pub ticked_so : (setting : Setting S V) → MovesOn w (acts setting (suc place) seat wishes.Tick world)
      ticked_so setting = by_leads (ticked seat.client) world.draw refl (stays place w (λ later. StandsAs later place (ticked seat.client)) (acts_so.ticked w place seat.client stands))

      pub pinged_so : (setting : Setting S V) (id : ℕ) → MovesOn w (acts setting (suc place) seat (wishes.Ping id) world)
      pinged_so setting id = by_leads (pinged id seat.client) world.draw refl (stays place w (λ later. StandsAs later place (pinged id seat.client)) (acts_so.pinged w place id seat.client stands))

      pub asked_so : (setting : Setting S V) (number : ℕ) → MovesOn w (acts setting (suc place) seat (wishes.AskSalts number) world)
      asked_so setting number =
          by_leads (salts_asked number seat.client) world.draw refl (stays place w (λ later. StandsAs later place (salts_asked number seat.client)) (acts_so.salts_asked w place number seat.client stands))

      pub dropped_so : (setting : Setting S V) (call : CallNo) → MovesOn w (acts setting (suc place) seat (wishes.Drop call) world)
      dropped_so setting call =
          by_leads (dropped call seat.client) world.draw (drops_same call seat.client).0 (stays place w (λ later. StandsAs later place (dropped call seat.client)) (acts_so.dropped w place call seat.client stands))

      pub ended_so : (setting : Setting S V) → MovesOn w (acts setting (suc place) seat wishes.End world)
      ended_so setting =
          by_leads (ended seat.client) world.draw refl
          (moves_once place w (λ later. StandsAs later place (ended seat.client)) (Own (End place)) (acts_so.ends_lawfully w place seat.client stands) refl (acts_so.ends w place seat.client stands))

      -- ---- it renews

      renewed_new : (setting : Setting S V) → AreFresh (names_drawn (acts setting (suc place) seat wishes.Renew world)) → IsNewSession w (word_after setting.step 0 world.draw)
      renewed_new setting fresh =
          let word : ℕ = word_after setting.step 0 world.draw in
          let behind : World S V = acts setting (suc place) seat wishes.Renew world in
          let rest : List ℕ = flat_map drawn_for_session (lives world) in
          let own = flat_changed sessions_drawn (λ (s : Seat). record s { client = renewed word seat.client }) world.seats place seat (word ∷ []) at refl word in
          let one : count word (word ∷ []) ≡ 1 = rw (eq-eqb word word refl) refl in
          new_session w world behind word h.seats fresh
          (omega (arith, own, one, count_append word (flat_map sessions_drawn behind.seats) rest, count_append word (flat_map sessions_drawn world.seats) rest))

      pub renewed_so : (setting : Setting S V) → AreFresh (names_drawn (acts setting (suc place) seat wishes.Renew world)) → MovesOn w (acts setting (suc place) seat wishes.Renew world)
      renewed_so setting fresh =
          let word : ℕ = word_after setting.step 0 world.draw in
          let new = renewed_new setting fresh in
          by_leads (renewed word seat.client) (draw_after setting.step 1 world.draw) refl
          (moves_once place w (λ later. StandsAs later place (renewed word seat.client)) (Own (Renew place word)) (acts_so.renews_lawfully w place word seat.client stands new) refl
          (acts_so.renews w place word seat.client h.reached stands new))

      -- ---- it hears

      for_session : (envelope : Envelope) → is_for seat.client envelope ≡ true → envelope.session ≡ seat.client.session
      for_session envelope is =
          eqb-true envelope.session seat.client.session
          (and_parts (envelope.key == seat.client.key) (envelope.session == seat.client.session)
          (and_parts ((envelope.key == seat.client.key) && (envelope.session == seat.client.session)) (is_odd envelope.number) is).0).1

      take_leads : (now : ℕ) (envelope : Envelope) → IsDown w envelope → Leads place w (λ later. StandsAs later place (take now envelope seat.client))
      take_leads now envelope down =
          elim (cases_Bool (is_for seat.client envelope)) [
            | inl is ↦
                acts_so.hears w place now seat.client envelope (record { server = down.unique; items = packet_items envelope }) h.reached stands down.there
                (down.session ∙ for_session envelope is) refl
            | inr not_so ↦ stays place w (λ later. StandsAs later place (take now envelope seat.client)) (acts_so.passes_over w place now seat.client envelope not_so stands)
          ]

      takes_leads : (now : ℕ) (opened : Option Envelope) → ((envelope : Envelope) → opened ≡ Some envelope → IsDown w envelope) → Leads place w (λ later. StandsAs later place (takes now opened seat.client))
      takes_leads now None down = stays place w (λ later. StandsAs later place (takes now None seat.client)) (acts_so.unopened w place now seat.client stands)
      takes_leads now (Some envelope) down = take_leads now envelope (down envelope refl)

      pub heard_so : (setting : Setting S V) (now : ℕ) (opened : Option Envelope) → ((envelope : Envelope) → opened ≡ Some envelope → IsDown w envelope)
          → MovesOn w (acts setting (suc place) seat (wishes.Take now opened) world)
      heard_so setting now opened down = by_leads (takes now opened seat.client) world.draw (takes_same now opened seat.client).0 (takes_leads now opened down)

    -- ---- it flushes

    module _ (flushes_so : Flushes S) (setting : Setting S V) where
      now_bagged : (later : Moved) (client : Client) (answer : Answer) → StandsAs later place client → client.key ≡ seat.client.key → client.session ≡ seat.client.session
          → (Rattle.law_once.proofs.Same.IsFrom (at_client setting) seat.client answer) → IsAnswerSent later.ups answer → AllByRecursion (IsBagged later (with_client client)) (sent_up answer)
      now_bagged later client Nothing its key session from sent = tt
      now_bagged later client Spent its key session from sent = tt
      now_bagged later client (Sends packet) its key session from sent =
          let present : packet.envelope.session ≡ (later.clients place).present =
          from.1 ∙ sym session ∙ sym (ap (λ (c : moves.Client). c.present) its.parts) in
          let owned : Owns (later.clients place) packet.envelope.session =
          ((λ none. its.made (session ∙ sym from.1 ∙ none)), inl present) in (
            (
              sent,
              record {
                place = place;
                owned = owned;
                holds = ap (λ (f : Option Seat). option_map (λ (s : Seat). s.client.key) f) (now_there client) ∙ ap (λ (n : ℕ). Some n) (key ∙ sym from.0);
              },
            ),
            tt,
          )

      pub flushed_so : MovesOn w (flushes setting (suc place) seat world)
      flushed_so =
          let now : ℕ = moment_of seat.clock in
          let l = flushes_so w (at_client setting) place now seat.client world.draw h.reached stands in
          let done = flush (at_client setting) now seat.client world.draw in
          let same = flush_same (at_client setting) seat.client now world.draw in
          let keep = keep_keys done.client same.0.0 in (
            l.moves,
            l.lawful,
            goes_on l.moves l.lawful l.own (with_client done.client) keep done.draw (world.bag ++ sent_up done.answer) (seats_on l.moves l.lawful l.own done.client l.gives.0)
                (all_append (IsBagged (after_all w l.moves) (with_client done.client)) world.bag (sent_up done.answer) (bag_on l.moves l.lawful l.own (with_client done.client) keep)
                (now_bagged (after_all w l.moves) done.client done.answer l.gives.0 same.0.0 same.0.1 same.1 l.gives.1)),
          )
