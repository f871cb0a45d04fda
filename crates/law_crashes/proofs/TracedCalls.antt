-- The records of a call lead to the server that it leaves.
use Rattle.std.proofs.Common.{◌≡◌, ◌∙◌, ◌≤◌, ◌<◌, ◌+◌, ℕ, suc, max, Bool, true, false, Option, Some, None, option_map, List, [], ◌∷◌, ◌++◌, filter, fold, map, length, length-append, refl, sym, ap, subst, arith, append-nil, append_assoc, is_some, lt-ltb, if◌then◌else◌}
use Rattle.std.specs.Prelude.{nat_lt, ◌||◌}
use Rattle.draws.specs.Draws.{draw_after}
use Rattle.envelope.specs.declared.parts.Dir.TheVariants.{Up}
use Rattle.envelope.specs.declared.parts.Envelope.{Envelope as Sealed}
use Rattle.envelope.specs.Opening.{Opens}
use Rattle.law_server.specs.Order.{AreOrdered}
use Rattle.law_server_replay.specs.Quiet.{quiet}
use Rattle.msg_ids.specs.Moments.{latest_moment, moment_of}
use Rattle.sess_records.specs.declared.records.Event.{Event}
use Rattle.sess_records.specs.declared.records.Event.TheVariants as recorded
use Rattle.sess_records.specs.declared.records.Record.{Record}
use Rattle.sess_journal.specs.Replay.{Basis, LeadsTo, after_interruption, after_reply, always, reached_by, run_interrupted, setting_at, unran}
use Rattle.server_core.specs.Packets.{brought_in}
use Rattle.server_rules.specs.Answer.{Answer, after_attach, after_packet, after_run, after_tick, begun, ended, is_spent}
use Rattle.server_rules.specs.Event.{Setting as ServerSetting, lost}
use Rattle.server_rules.specs.Events.{Packet as Comes, worked}
use Rattle.server_rules.specs.Sending.{all_sent}
use Rattle.server_rules.specs.Server.{Name, Server, Session, name_of}
use Rattle.waits.specs.declared.job.Job.{Job}
use Rattle.waits.specs.Jobs.{ready_job}
use Rattle.world_rules.specs.Ends.{course_in, serves}
use Rattle.world_rules.specs.Setting.{Setting, as_heard, at_server}
use Rattle.world_rules.specs.World.{World, server_now}
use Rattle.law_connections.specs.Joint.{at_moment}
use Rattle.law_crashes.specs.Crashes.{begun_in, moment_by}
use Rattle.law_crashes.specs.Records.{Attach, Call, Hear, Tick, Work, answered, begun_of, cut_off, entry_of, has_more, owed, owed_by_run}
use Rattle.law_crashes.proofs.Traces.{Facts, HaveRoom, Traces, begins_so, begun_more, moved, place_there, ready_below, recorded_so, seen}

-- ---- lists and moments

no_more : {X Y : Type 0} (xs : List X) (f : Y → X) (ys : List Y) → nat_lt (length xs) (length (xs ++ map f ys)) ≡ false → ys ≡ []
no_more xs f [] is = refl
no_more xs f (y ∷ ys) is =
    let same : length (xs ++ map f (y ∷ ys)) ≡ length xs + length (map f (y ∷ ys)) = length-append xs (map f (y ∷ ys)) in
    let more : length xs < length (xs ++ map f (y ∷ ys)) = omega (arith, same) in
    absurd (let e : true ≡ false = sym (lt-ltb (length xs) (length (xs ++ map f (y ∷ ys))) more) ∙ is in cc)

first_false : (a b : Bool) → (a || b) ≡ false → (a ≡ false) × (b ≡ false)
first_false false b is = (refl, is)
first_false true b is = absurd (let e : true ≡ false = is in cc)

none_spent : (sessions : List Session) → HaveRoom sessions → filter is_spent sessions ≡ []
none_spent [] room = refl
none_spent (session ∷ sessions) room =
    let first : is_spent session ≡ false = room 0 session (omega arith) in
    rw first (none_spent sessions (λ k d below. room (suc k) d (omega arith)))

greatest : (moment now : ℕ) → moment ≤ latest_moment → (moment ≤ max moment (moment_of now)) × (max moment (moment_of now) ≤ latest_moment)
greatest moment now early = (omega arith, omega (arith, early))

module _ {S V : Type 0} (basis : Basis S) (setting : Setting S V) (facts : Facts basis setting) where
  module _ (world : World S V) (records : List Record) (t : Traces basis world records) where
    -- the draw stands at its place
    draw_there : world.draw ≡ basis.at (basis.place_of world.draw)
    draw_there = t.drawn ∙ sym (ap basis.at (place_there basis setting facts world records t))

    same_answer : (act : ServerSetting S → Server → S → Answer S) → ((s : ServerSetting S) (server : Server) (now : ℕ) (draw : S) → act s (record server { now = now }) draw ≡ act s server draw)
        → (moment : ℕ) → moment ≤ latest_moment
        → act (record (at_server setting) { now = moment }) world.server world.draw ≡ act (setting_at basis moment) t.reached.server (basis.at (basis.place_of world.draw))
    same_answer act ignores moment early =
        ap (λ (s : ServerSetting S). act s world.server world.draw) (seen basis setting facts moment early)
        ∙ ap (λ (server : Server). act (setting_at basis moment) server world.draw) t.same
        ∙ ignores (setting_at basis moment) t.reached.server world.server.now world.draw
        ∙ ap (λ (draw : S). act (setting_at basis moment) t.reached.server draw) draw_there

    -- an event and its record
    event_so : (there : World S V) (act : ServerSetting S → Server → S → Answer S)
        → ((s : ServerSetting S) (server : Server) (now : ℕ) (draw : S) → act s (record server { now = now }) draw ≡ act s server draw)
        → ((s : ServerSetting S) (server : Server) (draw : S) → (act s server draw).server.now ≡ s.now)
        → ((s : ServerSetting S) (server : Server) (draw : S) → (words : ℕ) × ((act s server draw).draw ≡ draw_after s.step words draw))
        → ((s : ServerSetting S) (server : Server) (draw : S) → HaveRoom (act s server draw).server.sessions)
        → (moment : ℕ) (event : Event (List ℕ)) → world.server.now ≤ moment → moment ≤ latest_moment
        → LeadsTo basis moment (basis.place_of world.draw) event t.reached (reached_by basis (act (setting_at basis moment) t.reached.server (basis.at (basis.place_of world.draw))))
        → begun_of event ≡ None → ((before : ℕ) → moment_by before moment event ≡ moment)
        → there.server ≡ (act (record (at_server setting) { now = moment }) world.server world.draw).server
        → there.draw ≡ (act (record (at_server setting) { now = moment }) world.server world.draw).draw
        → Traces basis there (records ++ record { moment = moment; place = basis.place_of world.draw; event = event } ∷ [])
    event_so there act ignores now draws room moment event above early leads none at server draw =
        let answer = act (setting_at basis moment) t.reached.server (basis.at (basis.place_of world.draw)) in
        let same = same_answer act ignores moment early in
        let words = draws (setting_at basis moment) t.reached.server (basis.at (basis.place_of world.draw)) in
        let moment_so : answer.server.now ≡ moment =
        now (setting_at basis moment) t.reached.server (basis.at (basis.place_of world.draw)) ∙ (let e : moment_of moment ≡ moment = omega (arith, early) in e) in
        recorded_so basis setting facts world there records (record { moment = moment; place = basis.place_of world.draw; event = event }) answer words.0 t above early refl leads none at moment_so
        (server ∙ ap (λ (a : Answer S). a.server) same) (draw ∙ ap (λ (a : Answer S). a.draw) same)
        (words.1 ∙ ap (draw_after basis.step words.0) (sym draw_there)) (room (setting_at basis moment) t.reached.server (basis.at (basis.place_of world.draw)))

    -- ---- a packet

    abbrev moment_at : ℕ → ℕ
    moment_at now = server_now (at_moment now world)

    heard : (now : ℕ) (packet : List ℕ) (found : Option Sealed) → setting.opens (moment_at now) Up packet ≡ found
        → Traces basis (serves setting (Comes now (option_map as_heard found)) (at_moment now world))
        (records ++ (if is_some found then entry_of basis.place_of (at_moment now world) (recorded.Packet packet) ∷ [] else []))
    heard now packet None is =
        let g = greatest world.server.now now t.early in
        subst (λ (l : List Record). Traces basis (serves setting (Comes now None) (at_moment now world)) l) (sym (append-nil records))
        (moved basis setting facts world (serves setting (Comes now None) (at_moment now world)) records (moment_at now) t g.0 g.1 refl refl)
    heard now packet (Some envelope) is =
        let g = greatest world.server.now now t.early in
        let same : moment_at now ≡ moment_of (moment_at now) = omega (arith, g.1) in
        let opened : Opens basis.lock basis.keys (moment_of (moment_at now)) Up packet envelope =
        subst (λ (n : ℕ). Opens basis.lock basis.keys n Up packet envelope) same ((facts.opens (moment_at now) packet envelope).0 is) in
        event_so (serves setting (Comes now (Some (as_heard envelope))) (at_moment now world)) (λ s server draw. after_packet s (brought_in envelope) server draw)
        (λ s server now draw. refl) (λ s server draw. refl) (λ s server draw. facts.packet_draws s (brought_in envelope) server draw)
        (λ s server draw. facts.packet_room s (brought_in envelope) server draw)
        (moment_at now) (recorded.Packet packet) g.0 g.1 (_, (envelope, opened, refl), refl) refl (λ before. refl) refl refl

    -- ---- a tick, an attach

    module _ (ordered : AreOrdered world.server.sessions world.server.jobs) where
      ticked : (now : ℕ) (more : Bool) → has_more world (answered setting (Tick now) world) ≡ more
          → Traces basis (answered setting (Tick now) world) (records ++ (if more then entry_of basis.place_of (at_moment now world) recorded.Tick ∷ [] else []))
      ticked now false is =
          let g = greatest world.server.now now t.early in
          let answer = after_tick (record (at_server setting) { now = moment_at now }) world.server world.draw in
          let none : answer.entries ≡ [] = no_more world.entries _ answer.entries (first_false _ _ is).1 in
          let calm = facts.quiet_tick (record (at_server setting) { now = moment_at now }) world.server world.draw ordered t.room none in
          subst (λ (l : List Record). Traces basis (answered setting (Tick now) world) l) (sym (append-nil records))
          (moved basis setting facts world (answered setting (Tick now) world) records (moment_at now) t g.0 g.1 (ap (λ (a : Answer S). a.server) calm) (ap (λ (a : Answer S). a.draw) calm))
      ticked now true is =
          let g = greatest world.server.now now t.early in
          event_so (answered setting (Tick now) world) (λ s server draw. after_tick s server draw) (λ s server now draw. refl) (λ s server draw. refl) facts.tick_draws facts.tick_room
          (moment_at now) recorded.Tick g.0 g.1 (_, refl, refl) refl (λ before. refl) refl refl

      attached : (now : ℕ) (name : Name) (more : Bool) → has_more world (answered setting (Attach now name) world) ≡ more
          → Traces basis (answered setting (Attach now name) world)
          (records ++ (if more then entry_of basis.place_of (at_moment now world) (recorded.Attach name.key name.session) ∷ [] else []))
      attached now name false is =
          let g = greatest world.server.now now t.early in
          let answer = after_attach (record (at_server setting) { now = moment_at now }) name world.server world.draw in
          let none : answer.packets ≡ [] = no_more world.bag _ answer.packets (first_false _ _ is).0 in
          let calm = facts.quiet_attach (record (at_server setting) { now = moment_at now }) name world.server world.draw ordered t.room none in
          subst (λ (l : List Record). Traces basis (answered setting (Attach now name) world) l) (sym (append-nil records))
          (moved basis setting facts world (answered setting (Attach now name) world) records (moment_at now) t g.0 g.1 (ap (λ (a : Answer S). a.server) calm) (ap (λ (a : Answer S). a.draw) calm))
      attached now name true is =
          let g = greatest world.server.now now t.early in
          event_so (answered setting (Attach now name) world) (λ s server draw. after_attach s name server draw) (λ s server now draw. refl) (λ s server draw. refl)
          (λ s server draw. facts.attach_draws s name server draw) (λ s server draw. facts.attach_room s name server draw)
          (moment_at now) (recorded.Attach name.key name.session) g.0 g.1 (_, refl, refl) refl (λ before. refl) refl refl

  -- ---- a run

  -- the end of an event of which nothing is asked, where these sessions are lost
  abbrev ended_with : ServerSetting S → Server → S → List Session → Answer S
  ended_with s server draw gone =
      let done = fold (λ so_far session. lost (name_of session) so_far) (all_sent s (begun server draw)) gone in
      record {
        server = record { now = s.now; sessions = done.sessions; jobs = done.jobs; bindings = done.bindings };
        draw = done.draw;
        packets = done.sent;
        entries = done.entries;
      }

  -- a server of which nothing is asked stays, but for its moment
  idle : (s : ServerSetting S) (server : Server) (draw : S) → HaveRoom server.sessions → ended s (begun server draw) ≡ quiet s.now server draw
  idle s server draw room =
      subst (λ (gone : List Session). ended_with s server draw gone ≡ quiet s.now server draw) (sym (none_spent server.sessions room)) refl

  no_run : (s : ServerSetting S) (place : ℕ) (found : Option Job) (world : World S V) → found ≡ None
      → (worked (course_in world) (after_run s place found setting.serve world.service world.server world.draw)).server ≡ (ended s (begun world.server world.draw)).server
      × ((worked (course_in world) (after_run s place found setting.serve world.service world.server world.draw)).draw ≡ (ended s (begun world.server world.draw)).draw)
  no_run s place None world is = (refl, refl)
  no_run s place (Some job) world is = absurd (let e : Some job ≡ None = is in cc)

  -- the run of a job, by the service and by its reply
  one_run : (s : ServerSetting S) (place : ℕ) (job : Job) (found : Option Job) (world : World S V) → found ≡ Some job
      → ((worked (course_in world) (after_run s place found setting.serve world.service world.server world.draw)).server
      ≡ (after_run s place found always (setting.serve world.service job.request).0 world.server world.draw).0.server)
      × ((worked (course_in world) (after_run s place found setting.serve world.service world.server world.draw)).draw
      ≡ (after_run s place found always (setting.serve world.service job.request).0 world.server world.draw).0.draw)
  one_run s place job None world is = absurd (let e : None ≡ Some job = is in cc)
  one_run s place job (Some other) world is =
      let same : other ≡ job = cc in
      subst (λ (one : Job). ((worked (course_in world) (after_run s place (Some other) setting.serve world.service world.server world.draw)).server
      ≡ (after_run s place (Some other) always (setting.serve world.service one.request).0 world.server world.draw).0.server)
      × ((worked (course_in world) (after_run s place (Some other) setting.serve world.service world.server world.draw)).draw
      ≡ (after_run s place (Some other) always (setting.serve world.service one.request).0 world.server world.draw).0.draw)) same (refl, refl)

  given_run : (s : ServerSetting S) (place : ℕ) (reply : List ℕ) (found : Option Job) (world : World S V)
      → ((worked (course_in world) (after_run s place found (λ service request. (reply, service)) world.service world.server world.draw)).server
      ≡ (after_run s place found always reply world.server world.draw).0.server)
      × ((worked (course_in world) (after_run s place found (λ service request. (reply, service)) world.service world.server world.draw)).draw
      ≡ (after_run s place found always reply world.server world.draw).0.draw)
  given_run s place reply None world = (refl, refl)
  given_run s place reply (Some job) world = (refl, refl)

  now_of_run : (s : ServerSetting S) (place : ℕ) (reply : List ℕ) (found : Option Job) (server : Server) (draw : S) → (after_run s place found always reply server draw).0.server.now ≡ s.now
  now_of_run s place reply None server draw = refl
  now_of_run s place reply (Some job) server draw = refl

  same_in_run : (s : ServerSetting S) (place : ℕ) (reply : List ℕ) (found : Option Job) (server : Server) (now : ℕ) (draw : S)
      → (after_run s place found always reply (record server { now = now }) draw).0 ≡ (after_run s place found always reply server draw).0
  same_in_run s place reply None server now draw = refl
  same_in_run s place reply (Some job) server now draw = refl

  pub ran : (world : World S V) (records : List Record) → Traces basis world records → (now place : ℕ) (found : Option Job) → ready_job place world.server.jobs ≡ found
      → Traces basis (answered setting (Work now place) world) (records ++ owed_by_run setting basis.place_of place found (at_moment now world))
  ran world records t now place None is =
      let g = greatest world.server.now now t.early in
      let s = record (at_server setting) { now = moment_at world records t now } in
      let none = no_run s place (ready_job place world.server.jobs) world is in
      let calm = idle s world.server world.draw t.room in
      subst (λ (l : List Record). Traces basis (answered setting (Work now place) world) l) (sym (append-nil records))
      (moved basis setting facts world (answered setting (Work now place) world) records (moment_at world records t now) t g.0 g.1
      (none.0 ∙ ap (λ (a : Answer S). a.server) calm) (none.1 ∙ ap (λ (a : Answer S). a.draw) calm))
  ran world records t now place (Some job) is =
      let g = greatest world.server.now now t.early in
      let moment = moment_at world records t now in
      let reply = (setting.serve world.service job.request).0 in
      let begin : Record = entry_of basis.place_of (at_moment now world) (recorded.Begin place) in
      let s = record (at_server setting) { now = moment } in
      let run = one_run s place job (ready_job place world.server.jobs) world is in
      let t_begun = begins_so basis setting facts world records moment place t g.0 (ready_below place world.server.jobs job is) in
      let all = event_so world (records ++ begin ∷ []) t_begun (answered setting (Work now place) world) (λ s server draw. after_reply s place reply server draw)
      (λ s server now draw. same_in_run s place reply (ready_job place server.jobs) server now draw) (λ s server draw. now_of_run s place reply (ready_job place server.jobs) server draw)
      (λ s server draw. facts.reply_draws s place reply server draw) (λ s server draw. facts.reply_room s place reply server draw)
      moment (recorded.Ran reply) g.0 g.1 (_, (place, t_begun.begun ∙ begun_more records begin, refl), refl) refl (λ before. refl) run.0 run.1 in
      subst (λ (l : List Record). Traces basis (answered setting (Work now place) world) l)
      (append_assoc records (begin ∷ []) (entry_of basis.place_of (at_moment now world) (recorded.Ran reply) ∷ [])) all

  -- the run that began last is cut off
  pub cut_traced : (world : World S V) (records : List Record) (t : Traces basis world records) (moment job : ℕ) → world.server.now ≤ moment → moment ≤ latest_moment
      → begun_in records ≡ Some job
      → Traces basis (cut_off setting moment job world) (records ++ record { moment = moment; place = basis.place_of world.draw; event = recorded.Interrupted } ∷ [])
  cut_traced world records t moment job above early is =
      let same : max world.server.now (moment_of moment) ≡ moment = omega (arith, above, early) in
      let found = ready_job job world.server.jobs in
      let given = given_run (record (at_server setting) { now = max world.server.now (moment_of moment) }) job run_interrupted found world in
      event_so world records t (cut_off setting moment job world) (λ s server draw. after_interruption s job server draw)
      (λ s server now draw. ap (λ (a : Answer S). record a { entries = unran a.entries }) (same_in_run s job run_interrupted (ready_job job server.jobs) server now draw))
      (λ s server draw. now_of_run s job run_interrupted (ready_job job server.jobs) server draw)
      (λ s server draw. facts.reply_draws s job run_interrupted server draw) (λ s server draw. facts.reply_room s job run_interrupted server draw)
      moment recorded.Interrupted above early (_, (job, t.begun ∙ is, refl), refl) refl (λ before. refl)
      (given.0 ∙ ap (λ (n : ℕ). (after_run (record (at_server setting) { now = n }) job found always run_interrupted world.server world.draw).0.server) same)
      (given.1 ∙ ap (λ (n : ℕ). (after_run (record (at_server setting) { now = n }) job found always run_interrupted world.server world.draw).0.draw) same)

  pub cut_now : (world : World S V) (moment job : ℕ) → world.server.now ≤ moment → moment ≤ latest_moment → (cut_off setting moment job world).server.now ≡ moment
  cut_now world moment job above early =
      let same : max world.server.now (moment_of moment) ≡ moment = omega (arith, above, early) in
      let s = record (at_server setting) { now = max world.server.now (moment_of moment) } in
      let found = ready_job job world.server.jobs in
      ap (λ (server : Server). server.now) (given_run s job run_interrupted found world).0
      ∙ now_of_run s job run_interrupted found world.server world.draw ∙ same

  -- ---- calls

  pub call_traced : (call : Call) (world : World S V) (records : List Record) → Traces basis world records → AreOrdered world.server.sessions world.server.jobs
      → Traces basis (answered setting call world) (records ++ owed setting basis.place_of call world)
  call_traced (Hear now packet) world records t ordered = heard world records t now packet (setting.opens (server_now (at_moment now world)) Up packet) refl
  call_traced (Attach now name) world records t ordered = attached world records t ordered now name (has_more world (answered setting (Attach now name) world)) refl
  call_traced (Tick now) world records t ordered = ticked world records t ordered now (has_more world (answered setting (Tick now) world)) refl
  call_traced (Work now place) world records t ordered = ran world records t now place (ready_job place world.server.jobs) refl
