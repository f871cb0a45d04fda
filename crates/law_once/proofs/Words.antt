-- The words that an event of a world draws, and the names among them.
use Rattle.std.proofs.Common.{◌≡◌, ◌≢◌, ℕ, zero, suc, ◌+◌, true, Option, Some, None, List, [], ◌∷◌, ◌++◌, map, filter, fold, refl, ap, ◌∙◌, arith}
use Rattle.std.specs.Prelude.{option_map, slice_get}
use Rattle.std.specs.List.{AllPairs, Contains, flat_map}
use Rattle.std.proofs.lemmas.Bool.{cond_both}
use Rattle.draws.specs.Draws.{draw_after, word_after}
use Rattle.msg_ids.specs.Moments.{moment_of}
use Rattle.envelope.specs.declared.parts.Dir.{Dir}
use Rattle.envelope.specs.declared.parts.Dir.TheVariants.{Up, Down}
use Rattle.envelope.specs.declared.parts.Envelope.{Envelope}
use Rattle.sched_text.specs.declared.event.Event.{Event}
use Rattle.sched_text.specs.declared.event.Event.TheVariants as line
use Rattle.waits.specs.declared.job.Job.{Job}
use Rattle.waits.specs.Jobs.{ready_job}
use Rattle.server_rules.specs.Server.{Name, Session, is_named, is_same, name_of, without_session}
use Rattle.server_rules.specs.Event.{Setting as ServerSetting, State, lost, speaks}
use Rattle.server_rules.specs.Event as server
use Rattle.server_rules.specs.Sending.{all_sent}
use Rattle.server_rules.specs.Answer.{after_run, attaches, begun, is_spent, runs, takes, ticks, without_spent}
use Rattle.server_rules.specs.Events.{Attach, Course, Loss, Packet as Comes, Restart, Tick, Work, setting_at, worked}
use Rattle.client_rules.specs.Client.{Client, Temporary, temporary_of}
use Rattle.client_rules.specs.Events as wishes
use Rattle.client_rules.specs.Events.{renewed}
use Rattle.client_rules.specs.Flush.{flush}
use Rattle.world_rules.specs.Setting.{Setting, as_heard, at_client, at_server}
use Rattle.world_rules.specs.World.{Packet, Seat, World, bytes_of, changed_at, changed_from_0, counted, has_named, lives, lost_in, missing, owner, seat_now, server_now}
use Rattle.world_rules.specs.Ends.{acts, arrives, comes_down, comes_to_owner, comes_up, course_in, flushes, goes, said, said_by_work, seated, serves, with_seat}
use Rattle.world_rules.specs.Premises.{drawn_for_session, names_drawn, sessions_drawn}
use Rattle.world_rules.specs.Refusals.{call_numbered}
use Rattle.world_rules.specs.Run.{after, joins, present_name, set, wishes_so, works}
use Rattle.law_once.proofs.Lists.{here, later}
use Rattle.law_once.proofs.Counting.{count, count_append}
use Rattle.law_once.proofs.Drawn.{flat_changed, flat_more}
use Rattle.law_once.proofs.Named.{Themselves}
use Rattle.law_once.proofs.Growing.{Speaks, names_same}
use Rattle.law_once.proofs.Lives.{all_drawn, all_missing, has_member, itself as holds_itself, left_all, more_drawn, spent_all}
use Rattle.law_once.proofs.Names.{clocks_within, one_clock, same_sessions, wish_same}
use Rattle.law_once.proofs.Same.{IsSame, flush_same}
use Rattle.law_once.proofs.Later.{Counts, IsLater, later_itself}
use Rattle.law_once.proofs.Drew.{Fits, apart_of, at_first, attached_so, runs_so, sent_so, so_far, takes_so, ticks_so}
use Rattle.law_once.proofs.Filled.{IsOn, flush_on}

abbrev pub names_of : {S V : Type 0} → World S V → Counts
names_of world x = count x (names_drawn world)

-- all are there
none_missing : (xs ys : List Session) → ((o : Session) → Contains xs o → has_named (name_of o) ys ≡ true) → missing xs ys ≡ []
none_missing [] ys there = refl
none_missing (o ∷ xs) ys there = let its = there o (here o xs) in rw its (none_missing xs ys (λ other among. there other (later other o xs among)))

spent_draw : {S : Type 0} (spent : List Session) (state : State S) → (fold (λ so_far session. lost (name_of session) so_far) state spent).draw ≡ state.draw
spent_draw [] state = refl
spent_draw (session ∷ spent) state = spent_draw spent (lost (name_of session) state)

module _ {S V : Type 0} (k : Speaks S) (alone : Themselves S) (setting : Setting S V) (world : World S V) (apart : AllPairs (λ (one other : Session). name_of one ≢ name_of other) world.server.sessions) where
  -- some words were drawn since, and the names further are among them
  abbrev pub Drew : World S V → Type 0
  Drew behind = IsLater setting.step world.draw (names_of world) behind.draw (names_of behind)

  itself : Drew world
  itself = later_itself setting.step world.draw (names_of world)

  seats_names : (seats : List Seat) (draw : S) → IsLater setting.step world.draw (λ x. count x (flat_map sessions_drawn world.seats)) draw (λ x. count x (flat_map sessions_drawn seats))
      → IsLater setting.step world.draw (names_of world) draw (λ x. count x (flat_map sessions_drawn seats ++ flat_map drawn_for_session (lives world)))
  seats_names seats draw h =
      let within = h.within in
      record {
        many = h.many;
        later = h.later;
        within = λ x.
            let le = within x in
            omega (arith, le, count_append x (flat_map sessions_drawn world.seats) (flat_map drawn_for_session (lives world)), count_append x (flat_map sessions_drawn seats) (flat_map drawn_for_session (lives world)));
      }

  lives_names : (all : List Session) (draw : S) → IsLater setting.step world.draw (λ x. all_drawn x (lives world)) draw (λ x. all_drawn x all)
      → IsLater setting.step world.draw (names_of world) draw (λ x. count x (flat_map sessions_drawn world.seats ++ flat_map drawn_for_session all))
  lives_names all draw h =
      let within = h.within in
      record {
        many = h.many;
        later = h.later;
        within = λ x.
            let le = within x in
            omega (arith, le, count_append x (flat_map sessions_drawn world.seats) (flat_map drawn_for_session (lives world)), count_append x (flat_map sessions_drawn world.seats) (flat_map drawn_for_session all));
      }

  -- ---- a seat

  sat : (found : Option Seat) (act : Seat → World S V → World S V) → ((seat : Seat) → found ≡ Some seat → Drew (act seat world)) → Drew (seated found act world)
  sat None act so = itself
  sat (Some seat) act so = so seat refl

  -- a client changes and draws no name
  one_seat : (place : ℕ) (seat : Seat) (client : Client) (draw : S) → slice_get world.seats place ≡ Some seat → IsSame seat.client client → IsOn setting.step world.draw draw
      → IsLater setting.step world.draw (names_of world) draw
      (λ x. count x (flat_map sessions_drawn (changed_from_0 place (λ (s : Seat). record s { client = client }) world.seats) ++ flat_map drawn_for_session (lives world)))
  one_seat place seat client draw is same on =
      seats_names (changed_from_0 place (λ (s : Seat). record s { client = client }) world.seats) draw
      (record {
        many = on.many;
        later = on.on;
        within = λ x.
            omega (arith, flat_changed sessions_drawn (λ (s : Seat). record s { client = client }) world.seats place seat [] is (same_sessions seat client same) x);
      })

  still : (draw : S) → draw ≡ world.draw → IsOn setting.step world.draw draw
  still draw is = record { many = 0; on = is }

  acted : (place : ℕ) (wish : wishes.Event) (seat : Seat) → slice_get world.seats place ≡ Some seat → (wish ≡ wishes.Renew → ⊥)
      → (wishes.step (at_client setting) (record { client = seat.client; draw = world.draw }) wish).draw ≡ world.draw → Drew (acts setting (suc place) seat wish world)
  acted place wish seat is differs drawless =
      let behind = wishes.step (at_client setting) (record { client = seat.client; draw = world.draw }) wish in
      one_seat place seat behind.client behind.draw is (wish_same k alone setting world apart wish seat differs) (still behind.draw drawless)

  renewed_at : (place : ℕ) (seat : Seat) → slice_get world.seats place ≡ Some seat → Drew (acts setting (suc place) seat wishes.Renew world)
  renewed_at place seat is =
      let word : ℕ = word_after setting.step 0 world.draw in
      let change : Seat → Seat = λ s. record s { client = renewed word seat.client } in
      seats_names (changed_from_0 place change world.seats) (draw_after setting.step 1 world.draw)
      (record {
        many = 1;
        later = refl;
        within = λ x. omega (arith, flat_changed sessions_drawn change world.seats place seat (word ∷ []) is refl x);
      })

  wished : (number : ℕ) (wish : wishes.Event) → (wish ≡ wishes.Renew → ⊥)
      → ((seat : Seat) → (wishes.step (at_client setting) (record { client = seat.client; draw = world.draw }) wish).draw ≡ world.draw) → Drew (wishes_so setting number wish world)
  wished zero wish differs drawless = itself
  wished (suc place) wish differs drawless =
      sat (slice_get world.seats place) (λ seat. acts setting (suc place) seat wish) (λ seat is. acted place wish seat is differs (drawless seat))

  renewed_by : (number : ℕ) → Drew (wishes_so setting number wishes.Renew world)
  renewed_by zero = itself
  renewed_by (suc place) = sat (slice_get world.seats place) (λ seat. acts setting (suc place) seat wishes.Renew) (renewed_at place)

  flushed : (number : ℕ) → Drew (with_seat number (flushes setting number) world)
  flushed zero = itself
  flushed (suc place) =
      sat (slice_get world.seats place) (flushes setting (suc place))
      (λ seat is.
      let done = flush (at_client setting) (moment_of seat.clock) seat.client world.draw in
      let same = flush_same (at_client setting) seat.client (moment_of seat.clock) world.draw in
      one_seat place seat done.client done.draw is same.0 (flush_on (at_client setting) world.draw (moment_of seat.clock) seat.client))

  joined : (key : ℕ) (temporary : Option Temporary) → Drew (joins setting key temporary world)
  joined key temporary =
      let word : ℕ = word_after setting.step 0 world.draw in
      let seat : Seat = record { client = (wishes.made (at_client setting) key temporary world.draw).client; clock = 0 } in
      seats_names (world.seats ++ seat ∷ []) (draw_after setting.step 1 world.draw)
      (record { many = 1; later = refl; within = λ x. omega (arith, flat_more sessions_drawn world.seats (seat ∷ []) x) })

  clock_of : (number moment : ℕ) → Drew (record world { seats = changed_at number (set moment) world.seats })
  clock_of zero moment = itself
  clock_of (suc place) moment =
      seats_names (changed_from_0 place (set moment) world.seats) world.draw
      (record { many = 0; later = refl; within = λ x. omega (arith, ap (count x) (one_clock moment place world.seats)) })

  -- ---- a packet comes to a client

  came_down : (place : ℕ) (bytes : List ℕ) (seat : Seat) → slice_get world.seats place ≡ Some seat → Drew (comes_down setting (suc place) bytes seat world)
  came_down place bytes seat is =
      cond_both seat.client.has_ended world (acts setting (suc place) seat (wishes.Take (moment_of seat.clock) (setting.opens (seat_now seat) Down bytes)) world) Drew
      (λ over. itself) (λ on. acted place (wishes.Take (moment_of seat.clock) (setting.opens (seat_now seat) Down bytes)) seat is (λ same. absurd (cc)) refl)

  at_number : (number : ℕ) (bytes : List ℕ) → Drew (with_seat number (comes_down setting number bytes) world)
  at_number zero bytes = itself
  at_number (suc place) bytes = sat (slice_get world.seats place) (comes_down setting (suc place) bytes) (came_down place bytes)

  to_owner : (bytes : List ℕ) (number : Option ℕ) → Drew (comes_to_owner setting bytes number world)
  to_owner bytes None = itself
  to_owner bytes (Some number) = at_number number bytes

  -- ---- the server

  abbrev before : List Session
  before = world.server.sessions

  abbrev now : ℕ → ServerSetting S
  now moment = setting_at (at_server setting) moment world.server

  abbrev state : State S
  state = begun world.server world.draw

  -- what is lost and what is there, where all is said and some are lost then
  gathered : (all_said behind : List Session) (draw : S) → IsLater setting.step world.draw (at_first before (apart_of before apart)) draw (so_far before (apart_of before apart) all_said)
      → ((x : ℕ) → all_drawn x all_said ≡ all_drawn x (missing all_said behind) + all_drawn x behind)
      → IsLater setting.step world.draw (λ x. all_drawn x (lives world)) draw (λ x. all_drawn x ((world.lost ++ lost_in before all_said behind) ++ behind))
  gathered all_said behind draw h left =
      let within = h.within in
      record {
        many = h.many;
        later = h.later;
        within = λ x.
            let le = within x in
            let one = left x in
            omega (
              arith,
              le,
              one,
              more_drawn x world.lost before,
              more_drawn x (world.lost ++ lost_in before all_said behind) behind,
              more_drawn x world.lost (lost_in before all_said behind),
              more_drawn x (missing before all_said) (missing all_said behind),
            );
      }

  all_there : missing before before ≡ []
  all_there = none_missing before before (λ o among. has_member 0 (name_of o) before o among (names_same (name_of o)))

  abbrev At : List Session → S → Type 0
  At sessions draw = Fits before (apart_of before apart) setting.step world.draw sessions draw

  begins_so : At before world.draw
  begins_so =
      record {
        holds = λ x. holds_itself x k alone setting world apart;
        apart = apart_of before apart;
        within = record { many = 0; later = refl; within = λ x. omega (arith, ap (all_drawn x) all_there) };
      }

  abbrev Behind : List Session → List Session → S → Type 0
  Behind all_said behind draw = IsLater setting.step world.draw (λ x. all_drawn x (lives world)) draw (λ x. all_drawn x ((world.lost ++ lost_in before all_said behind) ++ behind))

  ended_so : (done : State S) → At done.sessions done.draw → Behind done.sessions (without_spent done).sessions (without_spent done).draw
  ended_so done h =
      let its = gathered done.sessions (without_spent done).sessions done.draw h.within (λ x. spent_all x done) in
      record { many = its.many; later = spent_draw (filter is_spent done.sessions) done ∙ its.later; within = its.within }

  by_state : (moment : ℕ) (done : State S) → At done.sessions done.draw
      → Behind (said (now moment) done) (without_spent (all_sent (now moment) done)).sessions (without_spent (all_sent (now moment) done)).draw
  by_state moment done h = ended_so (all_sent (now moment) done) (sent_so before (apart_of before apart) k alone (now moment) world.draw done h)

  packet_names : (moment : ℕ) (envelope : server.Envelope) → Drew (serves setting (Comes moment (Some envelope)) world)
  packet_names moment envelope =
      let done : State S = takes (now moment) envelope state in
      lives_names (lives (serves setting (Comes moment (Some envelope)) world)) (serves setting (Comes moment (Some envelope)) world).draw
      (by_state moment done (takes_so before (apart_of before apart) k alone (now moment) world.draw envelope state refl begins_so))

  unopened_names : (moment : ℕ) → Drew (serves setting (Comes moment None) world)
  unopened_names moment =
      lives_names (lives (serves setting (Comes moment None) world)) world.draw
      (let h = begins_so in gathered before before world.draw h.within (λ x. omega (arith, ap (all_drawn x) all_there)))

  tick_names : (moment : ℕ) → Drew (serves setting (Tick moment) world)
  tick_names moment =
      lives_names (lives (serves setting (Tick moment) world)) (serves setting (Tick moment) world).draw
      (by_state moment (ticks (now moment) state) (ticks_so before (apart_of before apart) k alone (now moment) world.draw state begins_so))

  attach_names : (moment : ℕ) (name : Name) → Drew (serves setting (Attach moment name) world)
  attach_names moment name =
      lives_names (lives (serves setting (Attach moment name) world)) (serves setting (Attach moment name) world).draw
      (by_state moment (speaks name (attaches (now moment)) state) (attached_so before (apart_of before apart) k alone (now moment) world.draw name state begins_so))

  abbrev worked_by : ℕ → ℕ → Option Job → Course S V
  worked_by moment place found = worked (course_in world) (after_run (now moment) place found setting.serve world.service world.server world.draw)

  work_by : (moment place : ℕ) (found : Option Job)
      → Behind (said_by_work (now moment) place found setting.serve (course_in world)) (worked_by moment place found).server.sessions (worked_by moment place found).draw
  work_by moment place None = ended_so state begins_so
  work_by moment place (Some job) =
      let reply = (setting.serve world.service job.request).0 in
      by_state moment (runs (now moment) place job reply state) (runs_so before (apart_of before apart) k alone (now moment) world.draw place job reply state begins_so)

  work_names : (moment place : ℕ) → Drew (serves setting (Work moment place) world)
  work_names moment place =
      lives_names (lives (serves setting (Work moment place) world)) (serves setting (Work moment place) world).draw (work_by moment place (ready_job place world.server.jobs))

  loss_names : (name : Name) → Drew (serves setting (Loss name) world)
  loss_names name =
      lives_names (lives (serves setting (Loss name) world)) world.draw
      (let h = begins_so in gathered before (without_session name before) world.draw h.within
      (λ x. left_all x (is_named name) (λ one other same. ap (λ (n : Name). is_same name n) same) before))

  restart_names : Drew (serves setting Restart world)
  restart_names =
      lives_names (lives (serves setting Restart world)) world.draw
      (let h = begins_so in gathered before [] world.draw h.within (λ x. omega (arith, ap (all_drawn x) (all_missing x k alone setting world apart before))))

  by_packet : (found : Option Envelope) → Drew (serves setting (Comes world.clock (option_map as_heard found)) world)
  by_packet None = unopened_names world.clock
  by_packet (Some envelope) = packet_names world.clock (as_heard envelope)

  came_up : (bytes : List ℕ) → Drew (comes_up setting bytes world)
  came_up bytes = by_packet (setting.opens (server_now world) Up bytes)

  went : (packet : Packet) (dir : Dir) → Drew (goes setting packet dir world)
  went packet Up = came_up (bytes_of setting packet)
  went packet Down = to_owner (bytes_of setting packet) (owner packet.envelope.session world.seats)

  arrived : (found : Option Packet) → Drew (arrives setting found world)
  arrived None = itself
  arrived (Some packet) = went packet packet.dir

  worked_at : (place : ℕ) → Drew (works setting place world)
  worked_at zero = itself
  worked_at (suc place) = work_names world.clock place

  -- ---- any event

  pub event_drew : (event : Event) → Drew (after setting world event)
  event_drew line.Client = joined setting.keys.permanent None
  event_drew line.ClientTemp = joined setting.keys.temporary (Some (temporary_of setting.keys.permanent setting.keys.expires))
  event_drew (line.ClockAll moment) =
      seats_names (map (set moment) world.seats) world.draw
      (record { many = 0; later = refl; within = λ x. omega (arith, ap (count x) (clocks_within moment world.seats)) })
  event_drew (line.ClockServer moment) = itself
  event_drew (line.ClockClient client moment) = clock_of client moment
  event_drew (line.Call client body earlier) = wished client (wishes.Submit body (option_map call_numbered earlier)) (λ same. absurd (cc)) (λ seat. refl)
  event_drew (line.Flush client) = flushed client
  event_drew (line.Give packet) = arrived (counted packet world.bag)
  event_drew (line.ForeignServer bytes) = came_up bytes
  event_drew (line.ForeignClient client bytes) = at_number client bytes
  event_drew (line.Work job) = worked_at job
  event_drew line.TickServer = tick_names world.clock
  event_drew (line.TickClient client) = wished client wishes.Tick (λ same. absurd (cc)) (λ seat. refl)
  event_drew (line.AttachServer client) =
      sat (counted client world.seats) (λ seat. serves setting (Attach world.clock (present_name seat))) (λ seat is. attach_names world.clock (present_name seat))
  event_drew (line.AttachClient client) = wished client wishes.Attach (λ same. absurd (cc)) (λ seat. refl)
  event_drew (line.Ping client) = wished client (wishes.Ping 1) (λ same. absurd (cc)) (λ seat. refl)
  event_drew (line.Salts client number) = wished client (wishes.AskSalts number) (λ same. absurd (cc)) (λ seat. refl)
  event_drew (line.DropAnswer client call) = wished client (wishes.Drop (call_numbered call)) (λ same. absurd (cc)) (λ seat. refl)
  event_drew (line.Renew client) = renewed_by client
  event_drew (line.End client) = wished client wishes.End (λ same. absurd (cc)) (λ seat. refl)
  event_drew (line.Lose client) =
      sat (counted client world.seats) (λ seat. serves setting (Loss (present_name seat))) (λ seat is. loss_names (present_name seat))
  event_drew line.Restart = restart_names
