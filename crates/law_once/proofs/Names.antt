-- The words that were drawn for session numbers, unique numbers and salts stay, each as often.
use Rattle.std.proofs.Common.{◌≡◌, ◌≢◌, ℕ, zero, suc, Option, None, Some, List, [], ◌∷◌, ◌++◌, map, refl, ap, ◌∙◌, arith}
use Rattle.std.specs.Prelude.{option_map, slice_get}
use Rattle.std.specs.List.{AllPairs, flat_map}
use Rattle.std.proofs.lemmas.Bool.{cond_both}
use Rattle.msg_ids.specs.Moments.{moment_of}
use Rattle.draws.specs.Draws.{word_after}
use Rattle.envelope.specs.declared.parts.Dir.{Dir}
use Rattle.envelope.specs.declared.parts.Dir.TheVariants.{Up, Down}
use Rattle.envelope.specs.declared.parts.Envelope.{Envelope}
use Rattle.sched_text.specs.declared.event.Event.{Event}
use Rattle.sched_text.specs.declared.event.Event.TheVariants as line
use Rattle.server_rules.specs.Server.{Name as SessionName, Session, name_of}
use Rattle.server_rules.specs.Events.{Attach, Loss, Packet as Comes, Restart, Tick, Work}
use Rattle.client_rules.specs.Client.{Client, Temporary, temporary_of}
use Rattle.client_rules.specs.Events as wishes
use Rattle.client_rules.specs.Events.{renewed}
use Rattle.client_rules.specs.Flush.{flush}
use Rattle.world_rules.specs.Setting.{Setting, as_heard, at_client}
use Rattle.world_rules.specs.World.{Packet, Seat, World, bytes_of, changed_at, changed_from_0, counted, lives, owner, seat_now, server_now}
use Rattle.world_rules.specs.Ends.{acts, arrives, comes_down, comes_to_owner, comes_up, flushes, goes, seated, serves, with_seat}
use Rattle.world_rules.specs.Premises.{drawn_for_session, names_drawn, sessions_drawn}
use Rattle.world_rules.specs.Refusals.{call_numbered}
use Rattle.world_rules.specs.Run.{after, joins, present_name, set, wishes_so, works}
use Rattle.law_once.proofs.Counting.{IsWithin, count, within_both, within_itself}
use Rattle.law_once.proofs.Drawn.{flat_changed, flat_more}
use Rattle.law_once.proofs.Same.{IsSame, drops_same, flush_same, submits_same, takes_same}
use Rattle.law_once.proofs.Named.{Themselves}
use Rattle.law_once.proofs.Growing.{Speaks}
use Rattle.law_once.proofs.Lives.{attach_drawn, loss_drawn, packet_drawn, restart_drawn, tick_drawn, unopened_drawn, work_drawn}

no_more : (xs : List ℕ) → xs ≡ xs ++ []
no_more [] = refl
no_more (x ∷ xs) = ap (λ (l : List ℕ). x ∷ l) (no_more xs)

-- ---- clients

-- one client changes, and draws no less
one_within : (change : Seat → Seat) (seats : List Seat) (place : ℕ) (seat : Seat) (more : List ℕ) → slice_get seats place ≡ Some seat
    → sessions_drawn (change seat) ≡ sessions_drawn seat ++ more → IsWithin (flat_map sessions_drawn seats) (flat_map sessions_drawn (changed_from_0 place change seats))
one_within change seats place seat more is so x = omega (arith, flat_changed sessions_drawn change seats place seat more is so x)

pub same_sessions : (seat : Seat) (client : Client) → IsSame seat.client client → sessions_drawn (record seat { client = client }) ≡ sessions_drawn seat ++ []
same_sessions seat client same =
    ap (λ (former : List ℕ). former ++ client.session ∷ []) same.2 ∙ ap (λ (session : ℕ). seat.client.former ++ session ∷ []) same.1 ∙ no_more (sessions_drawn seat)

pub clocks_within : (moment : ℕ) (seats : List Seat) → flat_map sessions_drawn (map (set moment) seats) ≡ flat_map sessions_drawn seats
clocks_within moment [] = refl
clocks_within moment (seat ∷ seats) = ap (λ (l : List ℕ). sessions_drawn seat ++ l) (clocks_within moment seats)

pub one_clock : (moment place : ℕ) (seats : List Seat) → flat_map sessions_drawn (changed_from_0 place (set moment) seats) ≡ flat_map sessions_drawn seats
one_clock moment place [] = refl
one_clock moment zero (seat ∷ seats) = refl
one_clock moment (suc place) (seat ∷ seats) = ap (λ (l : List ℕ). sessions_drawn seat ++ l) (one_clock moment place seats)

module _ {S V : Type 0} (k : Speaks S) (alone : Themselves S) (setting : Setting S V) (world : World S V) (apart : AllPairs (λ (one other : Session). name_of one ≢ name_of other) world.server.sessions) where
  abbrev Had : World S V → Type 0
  Had behind = IsWithin (names_drawn world) (names_drawn behind)

  itself : Had world
  itself = within_itself (names_drawn world)

  by_seats : (seats : List Seat) → IsWithin (flat_map sessions_drawn world.seats) (flat_map sessions_drawn seats)
      → IsWithin (names_drawn world) (flat_map sessions_drawn seats ++ flat_map drawn_for_session (lives world))
  by_seats seats h =
      within_both (flat_map sessions_drawn world.seats) (flat_map drawn_for_session (lives world)) (flat_map sessions_drawn seats) (flat_map drawn_for_session (lives world)) h
      (within_itself (flat_map drawn_for_session (lives world)))

  by_lives : (all : List Session) → IsWithin (flat_map drawn_for_session (lives world)) (flat_map drawn_for_session all)
      → IsWithin (names_drawn world) (flat_map sessions_drawn world.seats ++ flat_map drawn_for_session all)
  by_lives all h =
      within_both (flat_map sessions_drawn world.seats) (flat_map drawn_for_session (lives world)) (flat_map sessions_drawn world.seats) (flat_map drawn_for_session all)
      (within_itself (flat_map sessions_drawn world.seats)) h

  -- ---- a seat

  sat : (found : Option Seat) (act : Seat → World S V → World S V) → ((seat : Seat) → found ≡ Some seat → Had (act seat world)) → Had (seated found act world)
  sat None act so = itself
  sat (Some seat) act so = so seat refl

  pub wish_same : (wish : wishes.Event) (seat : Seat) → (wish ≡ wishes.Renew → ⊥) → IsSame seat.client (wishes.step (at_client setting) (record { client = seat.client; draw = world.draw }) wish).client
  wish_same (wishes.Submit body earlier) seat differs = submits_same body earlier seat.client
  wish_same wishes.Attach seat differs = (refl, refl, refl)
  wish_same wishes.Tick seat differs = (refl, refl, refl)
  wish_same (wishes.Ping id) seat differs = (refl, refl, refl)
  wish_same (wishes.AskSalts number) seat differs = (refl, refl, refl)
  wish_same (wishes.Drop call) seat differs = drops_same call seat.client
  wish_same (wishes.Flush now) seat differs = (flush_same (at_client setting) seat.client now world.draw).0
  wish_same (wishes.Take now opened) seat differs = takes_same now opened seat.client
  wish_same wishes.Renew seat differs = absurd (differs refl)
  wish_same wishes.End seat differs = (refl, refl, refl)

  acted : (place : ℕ) (wish : wishes.Event) (seat : Seat) → slice_get world.seats place ≡ Some seat → (wish ≡ wishes.Renew → ⊥) → Had (acts setting (suc place) seat wish world)
  acted place wish seat is differs =
      let behind = wishes.step (at_client setting) (record { client = seat.client; draw = world.draw }) wish in
      by_seats (acts setting (suc place) seat wish world).seats
      (one_within (λ (s : Seat). record s { client = behind.client }) world.seats place seat [] is (same_sessions seat behind.client (wish_same wish seat differs)))

  renewed_at : (place : ℕ) (seat : Seat) → slice_get world.seats place ≡ Some seat → Had (acts setting (suc place) seat wishes.Renew world)
  renewed_at place seat is =
      let word : ℕ = word_after setting.step 0 world.draw in
      by_seats (acts setting (suc place) seat wishes.Renew world).seats
      (one_within (λ (s : Seat). record s { client = renewed word seat.client }) world.seats place seat (word ∷ []) is refl)

  wished : (number : ℕ) (wish : wishes.Event) → (wish ≡ wishes.Renew → ⊥) → Had (wishes_so setting number wish world)
  wished zero wish differs = itself
  wished (suc place) wish differs = sat (slice_get world.seats place) (λ seat. acts setting (suc place) seat wish) (λ seat is. acted place wish seat is differs)

  renewed_by : (number : ℕ) → Had (wishes_so setting number wishes.Renew world)
  renewed_by zero = itself
  renewed_by (suc place) = sat (slice_get world.seats place) (λ seat. acts setting (suc place) seat wishes.Renew) (renewed_at place)

  flushed : (number : ℕ) → Had (with_seat number (flushes setting number) world)
  flushed zero = itself
  flushed (suc place) =
      sat (slice_get world.seats place) (flushes setting (suc place))
      (λ seat is.
      let done = flush (at_client setting) (moment_of seat.clock) seat.client world.draw in
      by_seats (flushes setting (suc place) seat world).seats
      (one_within (λ (s : Seat). record s { client = done.client }) world.seats place seat [] is
      (same_sessions seat done.client (flush_same (at_client setting) seat.client (moment_of seat.clock) world.draw).0)))

  joined : (key : ℕ) (temporary : Option Temporary) → Had (joins setting key temporary world)
  joined key temporary =
      by_seats (joins setting key temporary world).seats
      (λ x. omega (arith, flat_more sessions_drawn world.seats (record { client = (wishes.made (at_client setting) key temporary world.draw).client; clock = 0 } ∷ []) x))

  clock_of : (number moment : ℕ) → Had (record world { seats = changed_at number (set moment) world.seats })
  clock_of zero moment = itself
  clock_of (suc place) moment =
      by_seats (changed_from_0 place (set moment) world.seats) (λ x. omega (arith, ap (count x) (one_clock moment place world.seats)))

  -- ---- a packet comes to a client

  came_down : (place : ℕ) (bytes : List ℕ) (seat : Seat) → slice_get world.seats place ≡ Some seat → Had (comes_down setting (suc place) bytes seat world)
  came_down place bytes seat is =
      cond_both seat.client.has_ended world (acts setting (suc place) seat (wishes.Take (moment_of seat.clock) (setting.opens (seat_now seat) Down bytes)) world) Had
      (λ over. itself) (λ on. acted place (wishes.Take (moment_of seat.clock) (setting.opens (seat_now seat) Down bytes)) seat is (λ same. absurd (cc)))

  at_number : (number : ℕ) (bytes : List ℕ) → Had (with_seat number (comes_down setting number bytes) world)
  at_number zero bytes = itself
  at_number (suc place) bytes = sat (slice_get world.seats place) (comes_down setting (suc place) bytes) (came_down place bytes)

  to_owner : (bytes : List ℕ) (number : Option ℕ) → Had (comes_to_owner setting bytes number world)
  to_owner bytes None = itself
  to_owner bytes (Some number) = at_number number bytes

  -- ---- the server

  by_packet : (found : Option Envelope) → Had (serves setting (Comes world.clock (option_map as_heard found)) world)
  by_packet None = by_lives (lives (serves setting (Comes world.clock None) world)) (λ x. unopened_drawn x k alone setting world apart world.clock)
  by_packet (Some envelope) =
      by_lives (lives (serves setting (Comes world.clock (Some (as_heard envelope))) world)) (λ x. packet_drawn x k alone setting world apart world.clock (as_heard envelope))

  came_up : (bytes : List ℕ) → Had (comes_up setting bytes world)
  came_up bytes = by_packet (setting.opens (server_now world) Up bytes)

  went : (packet : Packet) (dir : Dir) → Had (goes setting packet dir world)
  went packet Up = came_up (bytes_of setting packet)
  went packet Down = to_owner (bytes_of setting packet) (owner packet.envelope.session world.seats)

  arrived : (found : Option Packet) → Had (arrives setting found world)
  arrived None = itself
  arrived (Some packet) = went packet packet.dir

  worked_at : (place : ℕ) → Had (works setting place world)
  worked_at zero = itself
  worked_at (suc place) = by_lives (lives (serves setting (Work world.clock place) world)) (λ x. work_drawn x k alone setting world apart world.clock place)

  pub attached_at : (name : SessionName) → Had (serves setting (Attach world.clock name) world)
  attached_at name = by_lives (lives (serves setting (Attach world.clock name) world)) (λ x. attach_drawn x k alone setting world apart world.clock name)

  -- ---- any event

  pub names_stay : (event : Event) → Had (after setting world event)
  names_stay line.Client = joined setting.keys.permanent None
  names_stay line.ClientTemp = joined setting.keys.temporary (Some (temporary_of setting.keys.permanent setting.keys.expires))
  names_stay (line.ClockAll moment) = by_seats (map (set moment) world.seats) (λ x. omega (arith, ap (count x) (clocks_within moment world.seats)))
  names_stay (line.ClockServer moment) = itself
  names_stay (line.ClockClient client moment) = clock_of client moment
  names_stay (line.Call client body earlier) = wished client (wishes.Submit body (option_map call_numbered earlier)) (λ same. absurd (cc))
  names_stay (line.Flush client) = flushed client
  names_stay (line.Give packet) = arrived (counted packet world.bag)
  names_stay (line.ForeignServer bytes) = came_up bytes
  names_stay (line.ForeignClient client bytes) = at_number client bytes
  names_stay (line.Work job) = worked_at job
  names_stay line.TickServer = by_lives (lives (serves setting (Tick world.clock) world)) (λ x. tick_drawn x k alone setting world apart world.clock)
  names_stay (line.TickClient client) = wished client wishes.Tick (λ same. absurd (cc))
  names_stay (line.AttachServer client) =
      sat (counted client world.seats) (λ seat. serves setting (Attach world.clock (present_name seat)))
      (λ seat is. attached_at (present_name seat))
  names_stay (line.AttachClient client) = wished client wishes.Attach (λ same. absurd (cc))
  names_stay (line.Ping client) = wished client (wishes.Ping 1) (λ same. absurd (cc))
  names_stay (line.Salts client number) = wished client (wishes.AskSalts number) (λ same. absurd (cc))
  names_stay (line.DropAnswer client call) = wished client (wishes.Drop (call_numbered call)) (λ same. absurd (cc))
  names_stay (line.Renew client) = renewed_by client
  names_stay (line.End client) = wished client wishes.End (λ same. absurd (cc))
  names_stay (line.Lose client) =
      sat (counted client world.seats) (λ seat. serves setting (Loss (present_name seat)))
      (λ seat is. by_lives (lives (serves setting (Loss (present_name seat)) world)) (λ x. loss_drawn x k alone setting world apart (present_name seat)))
  names_stay line.Restart = by_lives (lives (serves setting Restart world)) (λ x. restart_drawn x k alone setting world apart)
