-- What the calls of a server make of a world, and what the records that a crash leaves of one make of it.
use Rattle.std.proofs.Common.{◌≡◌, ◌≤◌, ℕ, suc, max, Option, Some, None, List, ◌++◌, map, take, refl, sym, subst, is_some, arith}
use Rattle.auth_keys.specs.declared.ring.RingKey.{RingKey}
use Rattle.envelope.specs.declared.parts.Dir.TheVariants.{Up}
use Rattle.envelope.specs.Packet.{Lock}
use Rattle.msg_ids.specs.Moments.{latest_moment, moment_of}
use Rattle.regs_service.specs.Served.{Step}
use Rattle.sched_text.specs.declared.event.Event.TheVariants as line
use Rattle.sess_records.specs.declared.records.Event.TheVariants as recorded
use Rattle.sess_records.specs.declared.records.Record.{Record}
use Rattle.server_rules.specs.Answer.{after_run}
use Rattle.server_rules.specs.Event as server
use Rattle.server_rules.specs.Events.{Course, setting_at, worked}
use Rattle.waits.specs.declared.job.Job.{Job}
use Rattle.waits.specs.Jobs.{ready_job}
use Rattle.world_rules.specs.Ends.{course_in, said_by_work, sent_down}
use Rattle.world_rules.specs.Setting.{Setting, at_server}
use Rattle.world_rules.specs.World.{World, lost_in, server_now}
use Rattle.world_rules.specs.Premises.{Fresh, IsSealed, IsSound}
use Rattle.law_once.specs.Served.{IsServed}
use Rattle.law_connections.specs.Joint.{at_moment}
use Rattle.law_connections.specs.Keeping.{Keeps}
use Rattle.law_crashes.specs.Records.{Attach, Call, Hear, Tick, Work, answered, entry_of, has_more, owed, owed_by_run, played_all, replied}
use Rattle.law_crashes.specs.Premises.{IsCallByNoChance}
use Rattle.law_crashes.proofs.Lists.{taken_if, taken_none, taken_two}
use Rattle.law_crashes.proofs.Worlds.{Carries, Growing, Known, Lived, again_served, carries_of, fresh_at, fresh_otherwise, lived_of, otherwise, otherwise_carried, otherwise_lived}

-- ---- a run whose reply was recorded

module _ {S V : Type 0} (setting : Setting S V) (moment place : ℕ) (world : World S V) where
  abbrev at : server.Setting S
  at = setting_at (at_server setting) moment world.server

  abbrev course_with : Step V → Option Job → Course S V
  course_with serve found = worked (course_in world) (after_run at place found serve world.service world.server world.draw)

  -- the run of this job, where there is one, by a service
  abbrev run_with : Step V → Option Job → World S V
  run_with serve found =
      record world {
        server = (course_with serve found).server;
        lost = world.lost ++ lost_in world.server.sessions (said_by_work at place found serve (course_in world)) (course_with serve found).server.sessions;
        draw = (course_with serve found).draw;
        entries = world.entries ++ map (λ entry. record { start = world.start; entry = entry }) (course_with serve found).entries;
        bag = world.bag ++ map sent_down (course_with serve found).packets;
      }

  same_run : (job : Job) (found : Option Job) → found ≡ Some job
      → run_with (λ service request. ((setting.serve world.service job.request).0, service)) found ≡ run_with setting.serve found
  same_run job found is =
      subst (λ (f : Option Job). run_with (λ service request. ((setting.serve world.service job.request).0, service)) f ≡ run_with setting.serve f) (sym is) refl

  -- it is the run, but for what the service comes to
  pub replied_is : (job : Job) → ready_job place world.server.jobs ≡ Some job
      → replied setting moment place (setting.serve world.service job.request).0 world ≡ otherwise setting world.clock world.service (answered setting (Work moment place) world)
  replied_is job is = same_run job (ready_job place world.server.jobs) is

-- ---- calls

-- from one world to another nothing is forgotten
pub record Goes {S V : Type 0} (setting : Setting S V) (world there : World S V) : Type 0 where
  pub lived : Lived setting there
  pub fresh : Fresh there → Fresh world

pub same_moment : (moment now : ℕ) → moment ≤ latest_moment → max moment (moment_of (max moment (moment_of now))) ≡ max moment (moment_of now)
same_moment moment now early = omega (arith, early)

module _ {S V : Type 0} (grows : Growing S V) (setting : Setting S V) where
  pub answered_served : (call : Call) (world : World S V) → IsServed setting world → IsServed setting (answered setting call world)
  answered_served (Hear now packet) world h = grows.served setting (at_moment now world) (line.ForeignServer packet) (again_served setting world now h)
  answered_served (Attach now name) world h = grows.served_attached setting (at_moment now world) name (again_served setting world now h)
  answered_served (Tick now) world h = grows.served setting (at_moment now world) line.TickServer (again_served setting world now h)
  answered_served (Work now place) world h = grows.served setting (at_moment now world) (line.Work (suc place)) (again_served setting world now h)

  pub answered_fresh : (call : Call) (world : World S V) → IsServed setting world → Fresh (answered setting call world) → Fresh world
  answered_fresh (Hear now packet) world h fresh = fresh_at setting world now (grows.words setting (at_moment now world) (line.ForeignServer packet) h.ordered fresh)
  answered_fresh (Attach now name) world h fresh = fresh_at setting world now (grows.words_attached setting (at_moment now world) name h.ordered fresh)
  answered_fresh (Tick now) world h fresh = fresh_at setting world now (grows.words setting (at_moment now world) line.TickServer h.ordered fresh)
  answered_fresh (Work now place) world h fresh = fresh_at setting world now (grows.words setting (at_moment now world) (line.Work (suc place)) h.ordered fresh)

  goes_answered : (call : Call) (world : World S V) → IsServed setting world → Goes setting world (answered setting call world)
  goes_answered call world h =
      let there = answered setting call world in
      record { lived = lived_of setting there (answered_served call world h); fresh = answered_fresh call world h }

  still : (world : World S V) → IsServed setting world → Goes setting world world
  still world h = record { lived = lived_of setting world h; fresh = λ fresh. fresh }

  goes_replied : (moment place : ℕ) (job : Job) (world : World S V) → ready_job place world.server.jobs ≡ Some job → IsServed setting world
      → Goes setting world (replied setting moment place (setting.serve world.service job.request).0 world)
  goes_replied moment place job world is h =
      let ran = answered setting (Work moment place) world in
      let goes = goes_answered (Work moment place) world h in
      subst (λ (w : World S V). Goes setting world w) (sym (replied_is setting moment place world job is))
      (record {
        lived = otherwise_lived setting ran world.clock world.service goes.lived;
        fresh = λ fresh. goes.fresh (fresh_otherwise setting ran world.clock world.service fresh);
      })

  -- ---- what a crash leaves of a call

  module _ (place_of : S → ℕ) (left : ℕ) (begun : Option ℕ) (world : World S V) where
    abbrev played : List Record → World S V
    played front = (played_all setting (record { world = world; begun = begun }) front).world

    run_left : (now place : ℕ) (found : Option Job) → ready_job place world.server.jobs ≡ found → IsServed setting world
        → Goes setting world (played (take left (owed_by_run setting place_of place found (at_moment now world))))
    run_left now place None is h = taken_none (λ (front : List Record). Goes setting world (played front)) left (still world h)
    run_left now place (Some job) is h =
        taken_two (λ (front : List Record). Goes setting world (played front)) left _ _ (still world h) (still world h)
        (goes_replied (server_now (at_moment now world)) place job world is h)

    pub call_left : (call : Call) → IsServed setting world → Goes setting world (played (take left (owed setting place_of call world)))
    call_left (Hear now packet) h =
        let here = at_moment now world in
        taken_if (λ (front : List Record). Goes setting world (played front)) left (is_some (setting.opens (server_now here) Up packet)) (entry_of place_of here (recorded.Packet packet))
        (still world h) (λ is. goes_answered (Hear (server_now here) packet) world h)
    call_left (Attach now name) h =
        let here = at_moment now world in
        taken_if (λ (front : List Record). Goes setting world (played front)) left (has_more world (answered setting (Attach now name) world)) (entry_of place_of here (recorded.Attach name.key name.session))
        (still world h) (λ is. goes_answered (Attach (server_now here) (record { key = name.key; session = name.session })) world h)
    call_left (Tick now) h =
        let here = at_moment now world in
        taken_if (λ (front : List Record). Goes setting world (played front)) left (has_more world (answered setting (Tick now) world)) (entry_of place_of here recorded.Tick)
        (still world h) (λ is. goes_answered (Tick (server_now here)) world h)
    call_left (Work now place) h = run_left now place (ready_job place world.server.jobs) refl h

  -- ---- what is kept

  module _ (lock : Lock) (ring : List RingKey) (known : Known S V lock ring) (so : IsSealed lock ring setting) (sound : IsSound ring setting) where
    keeps_at : (world : World S V) (now : ℕ) → Keeps lock ring setting world → Keeps lock ring setting (at_moment now world)
    keeps_at world now k =
        let h = k.moves.1 in
        record {
          moves = (k.moves.0, record { reached = h.reached; seats = h.seats; server = h.server; ordered = h.ordered; keys = h.keys; bag = h.bag; kept = h.kept });
          steady = record { seats = k.steady.seats; server = k.steady.server; bag = k.steady.bag };
          order = record { clients = k.order.clients; bag = k.order.bag; served = k.order.served };
          served = again_served setting world now k.served;
          in_order = λ number place client call earlier before behind entered of is_earlier is named ran.
              k.in_order number place client call earlier before behind entered (record { clock = of.clock; seated = of.seated; submitted = of.submitted }) is_earlier is named ran;
        }

    pub answered_kept : (call : Call) (world : World S V) → IsCallByNoChance setting world call → Fresh (answered setting call world)
        → Keeps lock ring setting world → Keeps lock ring setting (answered setting call world)
    answered_kept (Hear now packet) world chance fresh k = known.event setting (at_moment now world) (line.ForeignServer packet) so sound tt chance fresh (keeps_at world now k)
    answered_kept (Attach now name) world chance fresh k = known.attach setting (at_moment now world) name so sound fresh (keeps_at world now k)
    answered_kept (Tick now) world chance fresh k = known.event setting (at_moment now world) line.TickServer so sound tt tt fresh (keeps_at world now k)
    answered_kept (Work now place) world chance fresh k = known.event setting (at_moment now world) (line.Work (suc place)) so sound tt tt fresh (keeps_at world now k)

    -- where the moment is the one that is recorded
    same_chance : (now : ℕ) (packet : List ℕ) (world : World S V) → world.server.now ≤ latest_moment → IsCallByNoChance setting world (Hear now packet)
        → IsCallByNoChance setting world (Hear (server_now (at_moment now world)) packet)
    same_chance now packet world early chance = λ envelope opened.
        let made = chance envelope (subst (λ (n : ℕ). setting.opens n Up packet ≡ Some envelope) (same_moment world.server.now now early) opened) in
        record { packet = made.packet; made = made.made; way = made.way; same = made.same }

    module _ (place_of : S → ℕ) (left : ℕ) (begun : Option ℕ) (world : World S V) (k : Keeps lock ring setting world) where
      abbrev There : List Record → Type 0
      There front = Fresh (played place_of left begun world front) → Carries lock ring setting (played place_of left begun world front)

      as_it_is : Fresh world → Carries lock ring setting world
      as_it_is fresh = carries_of setting lock ring world k

      as_answered : (call : Call) → IsCallByNoChance setting world call → Fresh (answered setting call world) → Carries lock ring setting (answered setting call world)
      as_answered call chance fresh = carries_of setting lock ring (answered setting call world) (answered_kept call world chance fresh k)

      as_replied : (moment place : ℕ) (job : Job) → ready_job place world.server.jobs ≡ Some job
          → Fresh (replied setting moment place (setting.serve world.service job.request).0 world)
          → Carries lock ring setting (replied setting moment place (setting.serve world.service job.request).0 world)
      as_replied moment place job is =
          let ran = answered setting (Work moment place) world in
          subst (λ (w : World S V). Fresh w → Carries lock ring setting w) (sym (replied_is setting moment place world job is))
          (λ fresh. otherwise_carried setting lock ring ran world.clock world.service
          (as_answered (Work moment place) tt (fresh_otherwise setting ran world.clock world.service fresh)))

      run_carried : (now place : ℕ) (found : Option Job) → ready_job place world.server.jobs ≡ found
          → There (take left (owed_by_run setting place_of place found (at_moment now world)))
      run_carried now place None is = taken_none There left as_it_is
      run_carried now place (Some job) is =
          taken_two There left _ _ as_it_is as_it_is (as_replied (server_now (at_moment now world)) place job is)

      pub call_carried : (call : Call) → IsCallByNoChance setting world call → There (take left (owed setting place_of call world))
      call_carried (Hear now packet) chance =
          let here = at_moment now world in
          taken_if There left (is_some (setting.opens (server_now here) Up packet)) (entry_of place_of here (recorded.Packet packet))
          as_it_is (λ is. as_answered (Hear (server_now here) packet) (same_chance now packet world k.steady.server.now chance))
      call_carried (Attach now name) chance =
          let here = at_moment now world in
          taken_if There left (has_more world (answered setting (Attach now name) world)) (entry_of place_of here (recorded.Attach name.key name.session))
          as_it_is (λ is. as_answered (Attach (server_now here) (record { key = name.key; session = name.session })) tt)
      call_carried (Tick now) chance =
          let here = at_moment now world in
          taken_if There left (has_more world (answered setting (Tick now) world)) (entry_of place_of here recorded.Tick)
          as_it_is (λ is. as_answered (Tick (server_now here)) tt)
      call_carried (Work now place) chance = run_carried now place (ready_job place world.server.jobs) refl
