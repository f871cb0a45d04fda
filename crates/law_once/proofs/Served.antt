-- What ran in a start of the server has the replies of the service.
use Rattle.std.proofs.Common.{◌≡◌, ◌≢◌, ℕ, zero, suc, ◌<◌, ◌==◌, ◌&&◌, Bool, Option, None, Some, List, [], ◌∷◌, ◌++◌, length, map, fold, if◌then◌else◌, inl, inr, refl, sym, ap, subst, ◌∙◌, arith, eq-eqb, ne_eqb}
use Rattle.std.specs.Prelude.{is_some, option_map}
use Rattle.std.specs.List.{Contains}
use Rattle.std.proofs.lemmas.Bool.{cases_Bool, cases_eq, cond_both}
use Rattle.msg_ids.specs.Moments.{moment_of}
use Rattle.envelope.specs.declared.parts.Dir.{Dir}
use Rattle.envelope.specs.declared.parts.Dir.TheVariants.{Up, Down}
use Rattle.regs_service.specs.Served.{Ran, Served, Step, replies_of, replies_to, requests_of, state_after}
use Rattle.waits.specs.declared.job.Job.{Job}
use Rattle.waits.specs.declared.job.Unfinished.{Unfinished}
use Rattle.waits.specs.Jobs.{Queue, is_of, is_ready, ready_job}
use Rattle.server_rules.specs.Server.{Name, Session, session_named}
use Rattle.server_rules.specs.Event.{Entry, Envelope, speaks}
use Rattle.server_rules.specs.Event as server
use Rattle.server_rules.specs.Answer.{after_run, attaches, begun, runs, takes, ticks}
use Rattle.server_rules.specs.Events.{Attach, Course, Event as ServerEvent, Loss, Packet as Comes, Restart, Tick, Work, after_event, setting_at, worked}
use Rattle.law_server.specs.Order.{AreOrdered, IsOrderlyAt, jobs_of}
use Rattle.sched_text.specs.declared.event.Event.{Event}
use Rattle.sched_text.specs.declared.event.Event.TheVariants as line
use Rattle.client_rules.specs.Client.{temporary_of}
use Rattle.client_rules.specs.Events as wishes
use Rattle.world_rules.specs.Setting.{Setting, as_heard, at_client, at_server}
use Rattle.world_rules.specs.World.{Entered, Packet, Seat, World, begins, bytes_of, changed_at, counted, owner, seat_now, server_now}
use Rattle.world_rules.specs.Ends.{acts, arrives, comes_down, comes_to_owner, comes_up, course_in, flushed_at, flushes, goes, seat_changed, seated, sent_up, serves}
use Rattle.world_rules.specs.Refusals.{call_numbered, refusal}
use Rattle.world_rules.specs.Run.{after, is_in_the_way, present_name, set, step, step_any, wishes_so, works}
use Rattle.world_rules.specs.Once.{ran_in}
use Rattle.law_once.specs.Served.{IsServed}
use Rattle.law_once.proofs.Lists.{here, kept_in, later as one_later}
use Rattle.law_once.proofs.Ran.{attached_same, ended_same, ran_of, runs_so, takes_same, ticks_same}

-- ---- what ran in a start

in_more : (start : ℕ) (xs ys : List Entered) → ran_in start (xs ++ ys) ≡ ran_in start xs ++ ran_in start ys
in_more start [] ys = refl
in_more start (x ∷ xs) ys =
    elim (cases_Bool ((x.start == start) && x.entry.ran)) [
      | inl is ↦ rw is (ap (λ (l : List Ran). record { request = x.entry.request; reply = x.entry.reply } ∷ l) (in_more start xs ys))
      | inr not_so ↦ rw not_so (in_more start xs ys)
    ]

abbrev entered_in : ℕ → List Entry → List Entered
entered_in start entries = map (λ (entry : Entry). record { start = start; entry = entry }) entries

in_own : (start : ℕ) (entries : List Entry) → ran_in start (entered_in start entries) ≡ ran_of entries
in_own start [] = refl
in_own start (entry ∷ entries) =
    elim (cases_Bool entry.ran) [
      | inl is ↦ rw (eq-eqb start start refl, is) (ap (λ (l : List Ran). record { request = entry.request; reply = entry.reply } ∷ l) (in_own start entries))
      | inr not_so ↦ rw (eq-eqb start start refl, not_so) (in_own start entries)
    ]

in_other : (start at : ℕ) (entries : List Entry) → at ≢ start → ran_in start (entered_in at entries) ≡ []
in_other start at [] differs = refl
in_other start at (entry ∷ entries) differs = rw (ne_eqb at start differs) (in_other start at entries differs)

-- ---- the service goes on

served_more : {V : Type 0} (serve : Step V) (fresh state : V) (runs : List Ran) (request : List ℕ) → Served serve fresh runs → state_after serve fresh (requests_of runs) ≡ state
    → Served serve fresh (runs ++ record { request = request; reply = (serve state request).0 } ∷ [])
served_more serve fresh state [] request h is = ap (λ (s : _). (serve s request).0 ∷ []) (sym is)
served_more serve fresh state (ran ∷ runs) request h is =
    let first : ran.reply ≡ (serve fresh ran.request).0 = cc in
    let rest : replies_of runs ≡ replies_to serve (serve fresh ran.request).1 (requests_of runs) = cc in
    let later = served_more serve (serve fresh ran.request).1 state runs request rest is in
    cc

state_more : {V : Type 0} (serve : Step V) (fresh : V) (runs : List Ran) (ran : Ran)
    → state_after serve fresh (requests_of (runs ++ ran ∷ [])) ≡ (serve (state_after serve fresh (requests_of runs)) ran.request).1
state_more serve fresh [] ran = refl
state_more serve fresh (one ∷ runs) ran = state_more serve (serve fresh one.request).1 runs ran

no_more : {X : Type 0} (xs : List X) → xs ++ [] ≡ xs
no_more [] = refl
no_more (x ∷ xs) = ap (λ (l : List _). x ∷ l) (no_more xs)

-- ---- a job's session stands

ready_in : (place : ℕ) (jobs : Queue) (job : Job) → ready_job place jobs ≡ Some job → (one : Unfinished) × Contains jobs one × (one.job ≡ job)
ready_in place [] job is = absurd (cc)
ready_in zero (one ∷ jobs) job is =
    elim (cases_Bool (is_ready one)) [
      | inl holds ↦
          let same : Some one.job ≡ Some job = subst (λ (b : Bool). (if b then Some one.job else ready_job zero jobs) ≡ Some job) holds is in
          (one, here one jobs, cc)
      | inr fails ↦
          let rest = ready_in zero jobs job (subst (λ (b : Bool). (if b then Some one.job else ready_job zero jobs) ≡ Some job) fails is) in
          (rest.0, one_later rest.0 one jobs rest.1, rest.2)
    ]
ready_in (suc place) (one ∷ jobs) job is =
    let rest = ready_in (if is_ready one then place else suc place) jobs job is in
    (rest.0, one_later rest.0 one jobs rest.1, rest.2)

stands_at : (found : Option Session) (jobs : Queue) (one : Unfinished) → Contains jobs one → IsOrderlyAt found jobs → (session : Session) × (found ≡ Some session)
stands_at None jobs one among h = let below : among.0 < length jobs = among.1 in let none : jobs ≡ [] = h in absurd (omega (arith, below, ap length none))
stands_at (Some session) jobs one among h = (session, refl)

session_of : (sessions : List Session) (jobs : Queue) (place : ℕ) (job : Job) → AreOrdered sessions jobs → ready_job place jobs ≡ Some job
    → (session : Session) × (session_named (record { key = job.key; session = job.session }) sessions ≡ Some session)
session_of sessions jobs place job ordered is =
    let name : Name = record { key = job.key; session = job.session } in
    let one = ready_in place jobs job is in
    stands_at (session_named name sessions) (jobs_of name jobs) one.0
    (kept_in (is_of job.key job.session) jobs one.0 one.1
    (rw (ap (λ (j : Job). j.key) one.2, ap (λ (j : Job). j.session) one.2, eq-eqb job.key job.key refl, eq-eqb job.session job.session refl) refl))
    (ordered.each name)

-- ---- a world

module _ {S V : Type 0} (setting : Setting S V) (keeps_order : (course : Course S V) (event : ServerEvent) → AreOrdered course.server.sessions course.server.jobs
    → AreOrdered (after_event (at_server setting) setting.serve setting.fresh course event).server.sessions (after_event (at_server setting) setting.serve setting.fresh course event).server.jobs) where
  abbrev Has : World S V → Type 0
  Has world = IsServed setting world

  -- where neither the server nor an entry changes
  again : (world : World S V) (seats : List Seat) (draw : S) (bag : List Packet) (clock : ℕ) → Has world → Has (record world { seats = seats; draw = draw; bag = bag; clock = clock })
  again world seats draw bag clock h = record { ordered = h.ordered; past = h.past; now = h.now; later = h.later }

  -- ---- events of the server

  module _ (world : World S V) (event : ServerEvent) (h : Has world) where
    abbrev done : Course S V
    done = after_event (at_server setting) setting.serve setting.fresh (course_in world) event

    own_more : ran_in world.start (serves setting event world).entries ≡ ran_in world.start world.entries ++ ran_of done.entries
    own_more = in_more world.start world.entries (entered_in world.start done.entries) ∙ ap (λ (l : List Ran). ran_in world.start world.entries ++ l) (in_own world.start done.entries)

    other_more : (start : ℕ) → world.start ≢ start → ran_in start (serves setting event world).entries ≡ ran_in start world.entries
    other_more start differs =
        in_more start world.entries (entered_in world.start done.entries)
        ∙ ap (λ (l : List Ran). ran_in start world.entries ++ l) (in_other start world.start done.entries differs) ∙ no_more (ran_in start world.entries)

    past_by : ((start : ℕ) → Served setting.serve setting.fresh (ran_in world.start (serves setting event world).entries)) → (start : ℕ) → Served setting.serve setting.fresh (ran_in start (serves setting event world).entries)
    past_by own start =
        elim (cases_eq world.start start) [
          | inl same ↦ subst (λ (s : ℕ). Served setting.serve setting.fresh (ran_in s (serves setting event world).entries)) same (own start)
          | inr differs ↦ subst (λ (l : List Ran). Served setting.serve setting.fresh l) (sym (other_more start differs)) (h.past start)
        ]

    -- nothing ran
    quiet : ran_of done.entries ≡ [] → done.service ≡ world.service → Has (serves setting event world)
    quiet none service =
        let same : ran_in world.start (serves setting event world).entries ≡ ran_in world.start world.entries =
        own_more ∙ ap (λ (l : List Ran). ran_in world.start world.entries ++ l) none ∙ no_more (ran_in world.start world.entries) in
        record {
          ordered = keeps_order (course_in world) event h.ordered;
          past = past_by (λ start. subst (λ (l : List Ran). Served setting.serve setting.fresh l) (sym same) (h.past world.start));
          now = ap (λ (l : List Ran). state_after setting.serve setting.fresh (requests_of l)) same ∙ h.now ∙ sym service;
          later = λ start above. other_more start (λ is. omega (arith, is, above)) ∙ h.later start above;
        }

    -- a job ran
    ran : (request : List ℕ) → ran_of done.entries ≡ record { request = request; reply = (setting.serve world.service request).0 } ∷ []
        → done.service ≡ (setting.serve world.service request).1 → Has (serves setting event world)
    ran request one service =
        let run : Ran = record { request = request; reply = (setting.serve world.service request).0 } in
        let more : ran_in world.start (serves setting event world).entries ≡ ran_in world.start world.entries ++ run ∷ [] =
        own_more ∙ ap (λ (l : List Ran). ran_in world.start world.entries ++ l) one in
        record {
          ordered = keeps_order (course_in world) event h.ordered;
          past = past_by (λ start. subst (λ (l : List Ran). Served setting.serve setting.fresh l) (sym more)
              (served_more setting.serve setting.fresh world.service (ran_in world.start world.entries) request (h.past world.start) h.now));
          now = ap (λ (l : List Ran). state_after setting.serve setting.fresh (requests_of l)) more
              ∙ state_more setting.serve setting.fresh (ran_in world.start world.entries) run ∙ ap (λ (v : V). (setting.serve v request).1) h.now ∙ sym service;
          later = λ start above. other_more start (λ is. omega (arith, is, above)) ∙ h.later start above;
        }

  abbrev at : ℕ → World S V → server.Setting S
  at moment world = setting_at (at_server setting) moment world.server

  packet : (world : World S V) (moment : ℕ) (envelope : Option Envelope) → Has world → Has (serves setting (Comes moment envelope) world)
  packet world moment None h = quiet world (Comes moment None) h refl refl
  packet world moment (Some envelope) h =
      let now = at moment world in
      quiet world (Comes moment (Some envelope)) h
      (ended_same now (takes now envelope (begun world.server world.draw)) ∙ takes_same now envelope (begun world.server world.draw)) refl

  ticked : (world : World S V) (moment : ℕ) → Has world → Has (serves setting (Tick moment) world)
  ticked world moment h =
      let now = at moment world in
      quiet world (Tick moment) h (ended_same now (ticks now (begun world.server world.draw)) ∙ ticks_same now (begun world.server world.draw)) refl

  pub attached : (world : World S V) (moment : ℕ) (name : Name) → Has world → Has (serves setting (Attach moment name) world)
  attached world moment name h =
      let now = at moment world in
      quiet world (Attach moment name) h (ended_same now (speaks name (attaches now) (begun world.server world.draw)) ∙ attached_same now name (begun world.server world.draw)) refl

  worked_by : (world : World S V) (moment place : ℕ) (found : Option Job) → ready_job place world.server.jobs ≡ found → Has world → Has (serves setting (Work moment place) world)
  worked_by world moment place None is h =
      let now = at moment world in
      let e : done world (Work moment place) h ≡ worked (course_in world) (after_run now place None setting.serve world.service world.server world.draw) =
      ap (λ (f : Option Job). worked (course_in world) (after_run now place f setting.serve world.service world.server world.draw)) is in
      quiet world (Work moment place) h
      (ap (λ (c : Course S V). ran_of c.entries) e ∙ ended_same now (begun world.server world.draw)) (ap (λ (c : Course S V). c.service) e)
  worked_by world moment place (Some job) is h =
      let now = at moment world in
      let served = setting.serve world.service job.request in
      let e : done world (Work moment place) h ≡ worked (course_in world) (after_run now place (Some job) setting.serve world.service world.server world.draw) =
      ap (λ (f : Option Job). worked (course_in world) (after_run now place f setting.serve world.service world.server world.draw)) is in
      let session = session_of world.server.sessions world.server.jobs place job h.ordered is in
      ran world (Work moment place) h job.request
      (ap (λ (c : Course S V). ran_of c.entries) e ∙ ended_same now (runs now place job served.0 (begun world.server world.draw))
      ∙ runs_so now place job served.0 session.0 (begun world.server world.draw) session.1)
      (ap (λ (c : Course S V). c.service) e)

  again_started : (world : World S V) → Has world → Has (record (serves setting Restart world) { start = suc world.start })
  again_started world h =
      let same : (start : ℕ) → ran_in start (serves setting Restart world).entries ≡ ran_in start world.entries =
      λ start. ap (ran_in start) (no_more world.entries) in
      record {
        ordered = keeps_order (course_in world) Restart h.ordered;
        past = λ start. subst (λ (l : List Ran). Served setting.serve setting.fresh l) (sym (same start)) (h.past start);
        now = ap (λ (l : List Ran). state_after setting.serve setting.fresh (requests_of l)) (same (suc world.start) ∙ h.later (suc world.start) (omega arith));
        later = λ start above. same start ∙ h.later start (omega arith);
      }

  -- ---- events of clients

  acted : (world : World S V) (number : ℕ) (wish : wishes.Event) (seat : Seat) → Has world → Has (acts setting number seat wish world)
  acted world number wish seat h =
      let behind = wishes.step (at_client setting) (record { client = seat.client; draw = world.draw }) wish in
      again world (seat_changed number behind.client world.seats) behind.draw world.bag world.clock h

  sat : (world : World S V) (found : Option Seat) (act : Seat → World S V → World S V) → ((seat : Seat) → Has world → Has (act seat world)) → Has world → Has (seated found act world)
  sat world None act so h = h
  sat world (Some seat) act so h = so seat h

  wished : (world : World S V) (number : ℕ) (wish : wishes.Event) → Has world → Has (wishes_so setting number wish world)
  wished world number wish h = sat world (counted number world.seats) (λ seat. acts setting number seat wish) (λ seat. acted world number wish seat) h

  came_down : (world : World S V) (number : ℕ) (bytes : List ℕ) (seat : Seat) → Has world → Has (comes_down setting number bytes seat world)
  came_down world number bytes seat h =
      cond_both seat.client.has_ended world (acts setting number seat (wishes.Take (moment_of seat.clock) (setting.opens (seat_now seat) Down bytes)) world) Has
      (λ is. h) (λ is. acted world number (wishes.Take (moment_of seat.clock) (setting.opens (seat_now seat) Down bytes)) seat h)

  came_up : (world : World S V) (bytes : List ℕ) → Has world → Has (comes_up setting bytes world)
  came_up world bytes h = packet world world.clock (option_map as_heard (setting.opens (server_now world) Up bytes)) h

  to_owner : (world : World S V) (bytes : List ℕ) (number : Option ℕ) → Has world → Has (comes_to_owner setting bytes number world)
  to_owner world bytes None h = h
  to_owner world bytes (Some number) h = sat world (counted number world.seats) (comes_down setting number bytes) (came_down world number bytes) h

  went : (world : World S V) (packet : Packet) (dir : Dir) → Has world → Has (goes setting packet dir world)
  went world packet Up h = came_up world (bytes_of setting packet) h
  went world packet Down h = to_owner world (bytes_of setting packet) (owner packet.envelope.session world.seats) h

  arrived : (world : World S V) (packet : Option Packet) → Has world → Has (arrives setting packet world)
  arrived world None h = h
  arrived world (Some packet) h = went world packet packet.dir h

  worked_at : (world : World S V) (place : ℕ) → Has world → Has (works setting place world)
  worked_at world zero h = h
  worked_at world (suc place) h = worked_by world world.clock place (ready_job place world.server.jobs) refl h

  -- ---- any event

  pub goes_on : (world : World S V) (event : Event) → Has world → Has (after setting world event)
  goes_on world line.Client h =
      let made = wishes.made (at_client setting) setting.keys.permanent None world.draw in
      again world (world.seats ++ record { client = made.client; clock = 0 } ∷ []) made.draw world.bag world.clock h
  goes_on world line.ClientTemp h =
      let made = wishes.made (at_client setting) setting.keys.temporary (Some (temporary_of setting.keys.permanent setting.keys.expires)) world.draw in
      again world (world.seats ++ record { client = made.client; clock = 0 } ∷ []) made.draw world.bag world.clock h
  goes_on world (line.ClockAll moment) h = again world (map (set moment) world.seats) world.draw world.bag moment h
  goes_on world (line.ClockServer moment) h = again world world.seats world.draw world.bag moment h
  goes_on world (line.ClockClient client moment) h = again world (changed_at client (set moment) world.seats) world.draw world.bag world.clock h
  goes_on world (line.Call client body earlier) h = wished world client (wishes.Submit body (option_map call_numbered earlier)) h
  goes_on world (line.Flush client) h =
      sat world (counted client world.seats) (flushes setting client)
      (λ seat h. let done = flushed_at setting seat world in again world (seat_changed client done.client world.seats) done.draw (world.bag ++ sent_up done.answer) world.clock h) h
  goes_on world (line.Give packet) h = arrived world (counted packet world.bag) h
  goes_on world (line.ForeignServer bytes) h = came_up world bytes h
  goes_on world (line.ForeignClient client bytes) h = sat world (counted client world.seats) (comes_down setting client bytes) (came_down world client bytes) h
  goes_on world (line.Work job) h = worked_at world job h
  goes_on world line.TickServer h = ticked world world.clock h
  goes_on world (line.TickClient client) h = wished world client wishes.Tick h
  goes_on world (line.AttachServer client) h =
      sat world (counted client world.seats) (λ seat. serves setting (Attach world.clock (present_name seat))) (λ seat. attached world world.clock (present_name seat)) h
  goes_on world (line.AttachClient client) h = wished world client wishes.Attach h
  goes_on world (line.Ping client) h = wished world client (wishes.Ping 1) h
  goes_on world (line.Salts client count) h = wished world client (wishes.AskSalts count) h
  goes_on world (line.DropAnswer client call) h = wished world client (wishes.Drop (call_numbered call)) h
  goes_on world (line.Renew client) h = wished world client wishes.Renew h
  goes_on world (line.End client) h = wished world client wishes.End h
  goes_on world (line.Lose client) h =
      sat world (counted client world.seats) (λ seat. serves setting (Loss (present_name seat))) (λ seat h. quiet world (Loss (present_name seat)) h refl refl) h
  goes_on world line.Restart h = again_started world h

  pub stepped : (world : World S V) (event : Event) → Has world → Has (step setting world event)
  stepped world event h = cond_both (is_some (refusal setting world event)) world (after setting world event) Has (λ is. h) (λ is. goes_on world event h)

  pub stepped_any : (world : World S V) (event : Event) → Has world → Has (step_any setting world event)
  stepped_any world event h = cond_both (is_in_the_way (refusal setting world event)) world (after setting world event) Has (λ is. h) (λ is. goes_on world event h)

  pub all_served : (world : World S V) (events : List Event) → Has world → Has (fold (step setting) world events)
  all_served world [] h = h
  all_served world (event ∷ events) h = all_served (step setting world event) events (stepped world event h)

  pub all_served_any : (world : World S V) (events : List Event) → Has world → Has (fold (step_any setting) world events)
  all_served_any world [] h = h
  all_served_any world (event ∷ events) h = all_served_any (step_any setting world event) events (stepped_any world event h)

  pub begins_served : AreOrdered [] [] → (draw : S) → Has (begins setting draw)
  begins_served fresh draw = record { ordered = fresh; past = λ start. refl; now = refl; later = λ start above. refl }
