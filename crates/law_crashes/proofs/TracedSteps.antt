-- After each step of a schedule with crashes, the records lead to the server of its world.
use Rattle.std.proofs.Common.{◌≡◌, ◌∙◌, ◌≤◌, ℕ, max, true, Option, Some, None, List, [], ◌∷◌, ◌++◌, fold, map, take, length, refl, sym, ap, subst, arith, append-nil, is_some, if◌then◌else◌}
use Rattle.std.specs.Prelude.{nat_lt, ◌||◌}
use Rattle.std.proofs.lemmas.Bool.{cond-true, cond_both}
use Rattle.std.proofs.lemmas.List.Sums.{fold-append}
use Rattle.envelope.specs.declared.parts.Dir.TheVariants.{Up}
use Rattle.msg_ids.specs.Moments.{latest_moment, moment_of}
use Rattle.sess_journal.specs.Keeping.{ending_by}
use Rattle.sess_records.specs.declared.records.Event.TheVariants as recorded
use Rattle.sess_records.specs.declared.records.Record.{Record}
use Rattle.sess_journal.specs.Replay.{Basis, at_first}
use Rattle.server_rules.specs.Answer.{after_attach, after_tick}
use Rattle.server_rules.specs.Server.{Name, Server}
use Rattle.waits.specs.declared.job.Job.{Job}
use Rattle.waits.specs.Jobs.{ready_job}
use Rattle.world_rules.specs.Ends.{seated, sent_down}
use Rattle.world_rules.specs.Setting.{Setting, at_server}
use Rattle.world_rules.specs.World.{Seat, World, counted, server_now}
use Rattle.law_once.specs.Served.{IsServed}
use Rattle.law_connections.specs.Joint.{Attaches, Deed, Draws, Flushes, Hears, Joint, Renews, Submits, at_moment, did, does, drawing}
use Rattle.law_crashes.specs.Crashes.{Answers, Begins, Crashes, Does, Living, Spares, Step, another_life, begun_in, created, goes_on, living_from, living_of, moment_in, opened_with, owed_under_way}
use Rattle.law_crashes.specs.Reached.{IsOpened, IsReached}
use Rattle.law_crashes.specs.Records.{Attach, Call, Hear, Played, Tick, Work, answered, begun_of, entry_of, has_more, owed, owed_by_run, played_all, plays}
use Rattle.law_crashes.proofs.Calls.{replied_is, same_moment}
use Rattle.law_crashes.proofs.Lists.{taken_if, taken_none, taken_two}
use Rattle.law_crashes.proofs.Steps.{served_on}
use Rattle.law_crashes.proofs.Traces.{Facts, Traces, begins_so, moment_more, ready_below, unmoved}
use Rattle.law_crashes.proofs.TracedCalls.{call_traced, cut_now, cut_traced, ran}
use Rattle.law_crashes.proofs.Worlds.{Growing, otherwise}

module _ {S V : Type 0} (setting : Setting S V) where
  -- ---- clients leave the server as it is

  seated_same : (found : Option Seat) (act : Seat → World S V → World S V) (world : World S V) → ((seat : Seat) → (act seat world).server ≡ world.server) → (seated found act world).server ≡ world.server
  seated_same None act world same = refl
  seated_same (Some seat) act world same = same seat

  did_same : (number : ℕ) (deed : Deed) (world : World S V) → (did setting number deed world).server ≡ world.server
  did_same number (Submits body earlier) world = seated_same (counted number world.seats) _ world (λ seat. refl)
  did_same number (Draws words) world = refl
  did_same number Attaches world = seated_same (counted number world.seats) _ world (λ seat. refl)
  did_same number Renews world = seated_same (counted number world.seats) _ world (λ seat. refl)
  did_same number (Flushes now) world = seated_same (counted number _) _ _ (λ seat. refl)
  did_same number (Hears now packet) world =
      seated_same (counted number _) _ _ (λ seat. cond_both seat.client.has_ended _ _ (λ (w : World S V). w.server ≡ world.server) (λ is. refl) (λ is. refl))

  does_same : (number : ℕ) (deed : Deed) (found : Option S) (joint : Joint S V)
      → ((does setting number deed found joint).world.server ≡ joint.world.server) × ((does setting number deed found joint).world.draw ≡ joint.world.draw)
  does_same number deed None joint = (refl, refl)
  does_same number deed (Some draw) joint = (did_same number deed (drawing draw joint.world), refl)

  -- the job that began last
  played_begun : (played : Played S V) (entries : List Record) → (played_all setting played entries).begun ≡ fold (λ before (entry : Record). begun_of entry.event) played.begun entries
  played_begun played [] = refl
  played_begun played (entry ∷ entries) = played_begun (plays setting played entry) entries

module _ {S V : Type 0} (basis : Basis S) (setting : Setting S V) (facts : Facts basis setting) where
  -- ---- what a crash leaves of a call

  module _ (left : ℕ) (begun : Option ℕ) (world : World S V) (records : List Record) (t : Traces basis world records) where
    abbrev Left : List Record → Type 0
    Left front = Traces basis (played_all setting (record { world = world; begun = begun }) front).world (records ++ front)

    none_left : Left []
    none_left = subst (λ (l : List Record). Traces basis world l) (sym (append-nil records)) t

    -- the records are those of the call at the moment that they have
    abbrev same : (now : ℕ) → Type 0
    same now = max world.server.now (moment_of (server_now (at_moment now world))) ≡ server_now (at_moment now world)

    packet_again : (now : ℕ) (packet : List ℕ) → is_some (setting.opens (server_now (at_moment now world)) Up packet) ≡ true
        → owed setting basis.place_of (Hear (server_now (at_moment now world)) packet) world ≡ entry_of basis.place_of (at_moment now world) (recorded.Packet packet) ∷ []
    packet_again now packet is =
        ap (λ (n : ℕ). if is_some (setting.opens n Up packet) then record { moment = n; place = basis.place_of world.draw; event = recorded.Packet packet } ∷ [] else [])
        (same_moment world.server.now now t.early)
        ∙ cond-true (is_some (setting.opens (server_now (at_moment now world)) Up packet)) _ [] is

    tick_again : (now : ℕ) → has_more world (answered setting (Tick now) world) ≡ true
        → owed setting basis.place_of (Tick (server_now (at_moment now world))) world ≡ entry_of basis.place_of (at_moment now world) recorded.Tick ∷ []
    tick_again now is =
        ap (λ (n : ℕ). let answer = after_tick (record (at_server setting) { now = n }) world.server world.draw in
        if nat_lt (length world.bag) (length (world.bag ++ map sent_down answer.packets)) || nat_lt (length world.entries) (length (world.entries ++ map (λ entry. record { start = world.start; entry = entry }) answer.entries))
        then record { moment = n; place = basis.place_of world.draw; event = recorded.Tick } ∷ [] else [])
        (same_moment world.server.now now t.early)
        ∙ cond-true (has_more world (answered setting (Tick now) world)) _ [] is

    attach_again : (now : ℕ) (name : Name) → has_more world (answered setting (Attach now name) world) ≡ true
        → owed setting basis.place_of (Attach (server_now (at_moment now world)) (record { key = name.key; session = name.session })) world
        ≡ entry_of basis.place_of (at_moment now world) (recorded.Attach name.key name.session) ∷ []
    attach_again now name is =
        ap (λ (n : ℕ). let answer = after_attach (record (at_server setting) { now = n }) name world.server world.draw in
        if nat_lt (length world.bag) (length (world.bag ++ map sent_down answer.packets)) || nat_lt (length world.entries) (length (world.entries ++ map (λ entry. record { start = world.start; entry = entry }) answer.entries))
        then record { moment = n; place = basis.place_of world.draw; event = recorded.Attach name.key name.session } ∷ [] else [])
        (same_moment world.server.now now t.early)
        ∙ cond-true (has_more world (answered setting (Attach now name) world)) _ [] is

    module _ (h : IsServed setting world) where
      again : (call : Call) (entry : Record) → owed setting basis.place_of call world ≡ entry ∷ [] → Traces basis (answered setting call world) (records ++ entry ∷ [])
      again call entry is =
          subst (λ (l : List Record). Traces basis (answered setting call world) (records ++ l)) is (call_traced basis setting facts call world records t h.ordered)

      run_left : (now place : ℕ) (found : Option Job) → ready_job place world.server.jobs ≡ found → Left (take left (owed_by_run setting basis.place_of place found (at_moment now world)))
      run_left now place None is = taken_none Left left none_left
      run_left now place (Some job) is =
          let moment = server_now (at_moment now world) in
          let above : world.server.now ≤ moment = omega arith in
          let all = ran basis setting facts world records t moment place (Some job) is in
          let begin = recorded.Begin place in
          let end = recorded.Ran (setting.serve world.service job.request).0 in
          let same : max world.server.now (moment_of moment) ≡ moment = same_moment world.server.now now t.early in
          let at : Traces basis (answered setting (Work moment place) world)
          (records ++ record { moment = moment; place = basis.place_of world.draw; event = begin } ∷ record { moment = moment; place = basis.place_of world.draw; event = end } ∷ []) =
          subst (λ (n : ℕ). Traces basis (answered setting (Work moment place) world)
          (records ++ record { moment = n; place = basis.place_of world.draw; event = begin } ∷ record { moment = n; place = basis.place_of world.draw; event = end } ∷ [])) same all in
          taken_two Left left _ _ none_left
          (begins_so basis setting facts world records moment place t above (ready_below place world.server.jobs job is))
          (subst (λ (w : World S V). Traces basis w (records ++ record { moment = moment; place = basis.place_of world.draw; event = begin } ∷ record { moment = moment; place = basis.place_of world.draw; event = end } ∷ []))
          (sym (replied_is setting moment place world job is))
          (unmoved basis setting facts (answered setting (Work moment place) world) (otherwise setting world.clock world.service (answered setting (Work moment place) world)) _ at refl refl))

      call_left_so : (call : Call) → Left (take left (owed setting basis.place_of call world))
      call_left_so (Hear now packet) =
          let moment = server_now (at_moment now world) in
          taken_if Left left (is_some (setting.opens moment Up packet)) (entry_of basis.place_of (at_moment now world) (recorded.Packet packet)) none_left
          (λ is. again (Hear moment packet) (entry_of basis.place_of (at_moment now world) (recorded.Packet packet)) (packet_again now packet is))
      call_left_so (Attach now name) =
          let moment = server_now (at_moment now world) in
          taken_if Left left (has_more world (answered setting (Attach now name) world)) (entry_of basis.place_of (at_moment now world) (recorded.Attach name.key name.session)) none_left
          (λ is. again (Attach moment (record { key = name.key; session = name.session })) (entry_of basis.place_of (at_moment now world) (recorded.Attach name.key name.session)) (attach_again now name is))
      call_left_so (Tick now) =
          let moment = server_now (at_moment now world) in
          taken_if Left left (has_more world (answered setting (Tick now) world)) (entry_of basis.place_of (at_moment now world) recorded.Tick) none_left
          (λ is. again (Tick moment) (entry_of basis.place_of (at_moment now world) recorded.Tick) (tick_again now is))
      call_left_so (Work now place) = run_left now place (ready_job place world.server.jobs) refl

      pub left_traced : (call : Option Call) → Left (take left (owed_under_way setting basis.place_of call world))
      left_traced None = taken_none Left left none_left
      left_traced (Some call) = call_left_so call

  -- ---- the opening

  life_traced : (world : World S V) (kept : List Record) → Traces basis world kept → Traces basis (another_life setting (moment_in kept) world) kept
  life_traced world kept t = record {
    reached = t.reached;
    replays = t.replays;
    same = ap (λ (s : Server). record s { now = moment_in kept }) t.same;
    later = omega (arith, t.now);
    early = omega (arith, t.now, t.later, t.early);
    begun = t.begun;
    now = t.now;
    place = t.place;
    drawn = t.drawn;
    room = t.room;
  }

  ended_traced : (now : ℕ) (world : World S V) (kept : List Record) (moment : ℕ) (begun : Option ℕ) → Traces basis world kept → world.server.now ≤ moment → moment ≤ latest_moment
      → begun_in kept ≡ begun
      → Traces basis (played_all setting (record { world = world; begun = begun }) (ending_by (moment_of now) moment (basis.place_of world.draw) begun)).world
      (kept ++ ending_by (moment_of now) moment (basis.place_of world.draw) begun)
  ended_traced now world kept moment None t below early is = subst (λ (l : List Record). Traces basis world l) (sym (append-nil kept)) t
  ended_traced now world kept moment (Some job) t below early is =
      cut_traced basis setting facts world kept t (max moment (moment_of now)) job (omega (arith, below)) (omega (arith, early)) is

  ended_now : (now : ℕ) (world : World S V) (kept : List Record) (moment : ℕ) (begun : Option ℕ) → world.server.now ≡ moment → moment ≡ moment_in kept → moment ≤ latest_moment
      → (played_all setting (record { world = world; begun = begun }) (ending_by (moment_of now) moment (basis.place_of world.draw) begun)).world.server.now
      ≡ moment_in (kept ++ ending_by (moment_of now) moment (basis.place_of world.draw) begun)
  ended_now now world kept moment None at is early = at ∙ is ∙ ap moment_in (sym (append-nil kept))
  ended_now now world kept moment (Some job) at is early =
      cut_now basis setting facts world (max moment (moment_of now)) job (omega (arith, at)) (omega (arith, early))
      ∙ sym (moment_more kept (record { moment = max moment (moment_of now); place = basis.place_of world.draw; event = recorded.Interrupted }))

  opened_traced : (now : ℕ) (front : List Record) (living : Living S V)
      → Traces basis (played_all setting (record { world = living.joint.world; begun = begun_in living.records }) front).world (living.records ++ front)
      → Traces basis (opened_with setting basis.place_of now front living).joint.world (opened_with setting basis.place_of now front living).records
  opened_traced now front living t =
      let kept = living.records ++ front in
      let there = played_all setting (record { world = living.joint.world; begun = begun_in living.records }) front in
      let next = life_traced there.world kept t in
      let begun : begun_in kept ≡ there.begun =
      fold-append (λ before (entry : Record). begun_of entry.event) None living.records front
      ∙ sym (played_begun setting (record { world = living.joint.world; begun = begun_in living.records }) front) in
      ended_traced now (another_life setting (moment_in kept) there.world) kept (moment_in kept) there.begun next (omega arith) next.early begun

  -- ---- each step

  module _ (grows : Growing S V) where
    spared : (now place : ℕ) (world : World S V) (records : List Record) (found : Option Job) → Traces basis world records → ready_job place world.server.jobs ≡ found
        → Traces basis world (records ++ take 1 (owed_by_run setting basis.place_of place found (at_moment now world)))
    spared now place world records None t is = subst (λ (l : List Record). Traces basis world l) (sym (append-nil records)) t
    spared now place world records (Some job) t is =
        begins_so basis setting facts world records (server_now (at_moment now world)) place t (omega arith) (ready_below place world.server.jobs job is)

    traced_on : (living : Living S V) (step : Step S) → IsServed setting living.joint.world → Traces basis living.joint.world living.records
        → Traces basis (goes_on setting basis.place_of living step).joint.world (goes_on setting basis.place_of living step).records
    traced_on living (Begins keys draw) h t =
        unmoved basis setting facts living.joint.world (goes_on setting basis.place_of living (Begins keys draw)).joint.world living.records t refl refl
    traced_on living (Does number deed) h t =
        let same = does_same setting number deed (counted number living.joint.draws) living.joint in
        unmoved basis setting facts living.joint.world (goes_on setting basis.place_of living (Does number deed)).joint.world living.records t same.0 same.1
    traced_on living (Answers call) h t = call_traced basis setting facts call living.joint.world living.records t h.ordered
    traced_on living (Spares now place) h t = spared now place living.joint.world living.records (ready_job place living.joint.world.server.jobs) t refl
    traced_on living (Crashes call left now) h t =
        opened_traced now (take left (owed_under_way setting basis.place_of call living.joint.world)) living
        (left_traced left (begun_in living.records) living.joint.world living.records t h call)

    served_from : (living : Living S V) (steps : List (Step S)) → IsServed setting living.joint.world → IsServed setting (living_from setting basis.place_of living steps).joint.world
    served_from living [] h = h
    served_from living (step ∷ steps) h = served_from (goes_on setting basis.place_of living step) steps (served_on grows setting basis.place_of living step h)

    traced_from : (living : Living S V) (steps : List (Step S)) → IsServed setting living.joint.world → Traces basis living.joint.world living.records
        → Traces basis (living_from setting basis.place_of living steps).joint.world (living_from setting basis.place_of living steps).records
    traced_from living [] h t = t
    traced_from living (step ∷ steps) h t =
        traced_from (goes_on setting basis.place_of living step) steps (served_on grows setting basis.place_of living step h) (traced_on living step h t)

    pub opened_by : (living : Living S V) (call : Option Call) (left now : ℕ) → IsServed setting living.joint.world → Traces basis living.joint.world living.records
        → IsOpened basis (goes_on setting basis.place_of living (Crashes call left now))
    opened_by living call left now h t =
        let front = take left (owed_under_way setting basis.place_of call living.joint.world) in
        let before = left_traced left (begun_in living.records) living.joint.world living.records t h call in
        let there = played_all setting (record { world = living.joint.world; begun = begun_in living.records }) front in
        let kept = living.records ++ front in
        let next = life_traced there.world kept before in
        let at = ended_now now (another_life setting (moment_in kept) there.world) kept (moment_in kept) there.begun refl refl next.early in
        let after = opened_traced now front living before in
        record {
          reached = after.reached;
          replays = after.replays;
          same = after.same ∙ ap (λ (n : ℕ). record after.reached.server { now = n }) (at ∙ sym after.now);
          drawn = after.drawn;
        }

    first_traced : Traces basis (created setting (basis.at 0)).joint.world []
    first_traced = record {
      reached = at_first;
      replays = refl;
      same = refl;
      later = omega arith;
      early = omega arith;
      begun = refl;
      now = refl;
      place = omega arith;
      drawn = refl;
      room = λ k d below. absurd (omega (arith, below));
    }

    pub opened_behind : (steps : List (Step S)) (call : Option Call) (left now : ℕ) → IsServed setting (created setting (basis.at 0)).joint.world
        → IsOpened basis (goes_on setting basis.place_of (living_of setting basis.place_of (basis.at 0) steps) (Crashes call left now))
    opened_behind steps call left now h =
        opened_by (living_of setting basis.place_of (basis.at 0) steps) call left now (served_from (created setting (basis.at 0)) steps h)
        (traced_from (created setting (basis.at 0)) steps h first_traced)

    pub reached_by_all : (steps : List (Step S)) → IsServed setting (created setting (basis.at 0)).joint.world → IsReached basis (living_of setting basis.place_of (basis.at 0) steps)
    reached_by_all steps h =
        let t = traced_from (created setting (basis.at 0)) steps h first_traced in
        record { reached = t.reached; replays = t.replays; same = t.same; later = t.later; drawn = t.drawn }
