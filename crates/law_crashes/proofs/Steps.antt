-- Each step of a schedule with crashes keeps what is kept of its world.
use Rattle.std.proofs.Common.{◌≤◌, ℕ, max, Option, Some, None, List, [], ◌∷◌, ◌++◌, fold, take, sym, subst, is_some, arith}
use Rattle.std.specs.List.{AllByRecursion}
use Rattle.std.proofs.lemmas.List.Sums.{fold-append}
use Rattle.std.proofs.lemmas.Bool.{cond_both}
use Rattle.auth_keys.specs.declared.ring.RingKey.{RingKey}
use Rattle.envelope.specs.declared.parts.Dir.TheVariants.{Up}
use Rattle.envelope.specs.Packet.{Lock}
use Rattle.msg_ids.specs.Moments.{latest_moment, moment_of}
use Rattle.sess_journal.specs.Keeping.{ending_by}
use Rattle.sess_records.specs.declared.records.Event.{Event}
use Rattle.sess_records.specs.declared.records.Event.TheVariants as recorded
use Rattle.sess_records.specs.declared.records.Record.{Record}
use Rattle.waits.specs.declared.job.Job.{Job}
use Rattle.waits.specs.Jobs.{ready_job}
use Rattle.world_rules.specs.Setting.{Setting}
use Rattle.world_rules.specs.World.{World, server_now}
use Rattle.world_rules.specs.Premises.{Fresh, IsSealed, IsSound}
use Rattle.law_once.specs.Served.{IsServed}
use Rattle.law_connections.specs.Joint.{at_moment}
use Rattle.law_connections.specs.Joint as joint
use Rattle.law_connections.specs.Keeping.{Keeps}
use Rattle.law_crashes.specs.Records.{Attach, Call, Hear, Tick, Work, answered, has_more, owed, owed_by_run, played_all}
use Rattle.law_crashes.specs.Crashes.{Answers, Begins, Crashes, Does, Living, Spares, Step, another_life, begun_in, goes_on, living_from, moment_by, moment_in, opened_with, owed_under_way}
use Rattle.law_crashes.specs.Premises.{AreOf, IsLivingStepByNoChance, IsLivingStepOf, NoChance}
use Rattle.law_crashes.proofs.Lists.{all_taken, taken_none}
use Rattle.law_crashes.proofs.Worlds.{Carries, Growing, Known, carries_of, fresh_reborn, keeps_of, lived_of, reborn, reborn_carried}
use Rattle.law_crashes.proofs.CutOff.{cut_carried, cut_fresh, cut_served}
use Rattle.law_crashes.proofs.Calls.{Goes, answered_fresh, answered_kept, answered_served, call_carried, call_left}

-- ---- moments of records

abbrev IsEarly : Record → Type 0
IsEarly entry = entry.moment ≤ latest_moment

later_early : (before moment : ℕ) (event : Event (List ℕ)) → before ≤ latest_moment → moment ≤ latest_moment → moment_by before moment event ≤ latest_moment
later_early before moment (recorded.Packet packet) old new = new
later_early before moment recorded.Tick old new = new
later_early before moment (recorded.Attach key session) old new = new
later_early before moment (recorded.Begin place) old new = old
later_early before moment (recorded.Ran reply) old new = new
later_early before moment recorded.Interrupted old new = new

all_early : (before : ℕ) (entries : List Record) → before ≤ latest_moment → AllByRecursion IsEarly entries
    → fold (λ so_far (entry : Record). moment_by so_far entry.moment entry.event) before entries ≤ latest_moment
all_early before [] old h = old
all_early before (entry ∷ entries) old h = all_early (moment_by before entry.moment entry.event) entries (later_early before entry.moment entry.event old h.0) h.1

behind_early : (entries more : List Record) → moment_in entries ≤ latest_moment → AllByRecursion IsEarly more → moment_in (entries ++ more) ≤ latest_moment
behind_early entries more old h =
    subst (λ (n : ℕ). n ≤ latest_moment) (sym (fold-append (λ so_far (entry : Record). moment_by so_far entry.moment entry.event) 0 entries more))
    (all_early (moment_in entries) more old h)

greatest_early : (moment now : ℕ) → moment ≤ latest_moment → max moment (moment_of now) ≤ latest_moment
greatest_early moment now early = omega (arith, early)

ending_early : (now moment place : ℕ) (begun : Option ℕ) → moment ≤ latest_moment → AllByRecursion IsEarly (ending_by (moment_of now) moment place begun)
ending_early now moment place None early = tt
ending_early now moment place (Some job) early = (greatest_early moment now early, tt)

module _ {S V : Type 0} (grows : Growing S V) (setting : Setting S V) (place_of : S → ℕ) where
  run_early : (place : ℕ) (found : Option Job) (now : ℕ) (world : World S V) → world.server.now ≤ latest_moment
      → AllByRecursion IsEarly (owed_by_run setting place_of place found (at_moment now world))
  run_early place None now world early = tt
  run_early place (Some job) now world early =
      let it = greatest_early world.server.now now early in (it, (it, tt))

  owed_early : (call : Call) (world : World S V) → world.server.now ≤ latest_moment → AllByRecursion IsEarly (owed setting place_of call world)
  owed_early (Hear now packet) world early =
      cond_both (is_some (setting.opens (server_now (at_moment now world)) Up packet)) _ _ (AllByRecursion IsEarly) (λ is. (greatest_early world.server.now now early, tt)) (λ is. tt)
  owed_early (Attach now name) world early =
      cond_both (has_more world (answered setting (Attach now name) world)) _ _ (AllByRecursion IsEarly) (λ is. (greatest_early world.server.now now early, tt)) (λ is. tt)
  owed_early (Tick now) world early =
      cond_both (has_more world (answered setting (Tick now) world)) _ _ (AllByRecursion IsEarly) (λ is. (greatest_early world.server.now now early, tt)) (λ is. tt)
  owed_early (Work now place) world early = run_early place (ready_job place world.server.jobs) now world early

  -- ---- a crash and the opening behind it

  under_way : (call : Option Call) (left : ℕ) (begun : Option ℕ) (world : World S V) → IsServed setting world
      → Goes setting world (played_all setting (record { world = world; begun = begun }) (take left (owed_under_way setting place_of call world))).world
  under_way None left begun world h =
      taken_none (λ (front : List Record). Goes setting world (played_all setting (record { world = world; begun = begun }) front).world) left
      (record { lived = lived_of setting world h; fresh = λ fresh. fresh })
  under_way (Some call) left begun world h = call_left grows setting place_of left begun world call h

  ended_served : (now moment place : ℕ) (begun : Option ℕ) (world : World S V) → IsServed setting world
      → IsServed setting (played_all setting (record { world = world; begun = begun }) (ending_by now moment place begun)).world
  ended_served now moment place None world h = h
  ended_served now moment place (Some job) world h = cut_served grows setting (max moment now) job world h

  ended_fresh : (now moment place : ℕ) (begun : Option ℕ) (world : World S V) → IsServed setting world
      → Fresh (played_all setting (record { world = world; begun = begun }) (ending_by now moment place begun)).world → Fresh world
  ended_fresh now moment place None world h fresh = fresh
  ended_fresh now moment place (Some job) world h fresh = cut_fresh grows setting (max moment now) job world (lived_of setting world h) fresh

  module _ (now : ℕ) (front : List Record) (living : Living S V)
      (goes : Goes setting living.joint.world (played_all setting (record { world = living.joint.world; begun = begun_in living.records }) front).world) where
    abbrev there : World S V
    there = (played_all setting (record { world = living.joint.world; begun = begun_in living.records }) front).world

    abbrev begun_there : Option ℕ
    begun_there = (played_all setting (record { world = living.joint.world; begun = begun_in living.records }) front).begun

    abbrev moment_there : ℕ
    moment_there = moment_in (living.records ++ front)

    abbrev again : World S V
    again = another_life setting moment_there there

    again_served_so : IsServed setting again
    again_served_so = reborn setting there moment_there goes.lived

    opened_served : IsServed setting (opened_with setting place_of now front living).joint.world
    opened_served = ended_served (moment_of now) moment_there (place_of again.draw) begun_there again again_served_so

    opened_fresh : Fresh (opened_with setting place_of now front living).joint.world → Fresh living.joint.world
    opened_fresh fresh =
        goes.fresh (fresh_reborn setting there moment_there
        (ended_fresh (moment_of now) moment_there (place_of again.draw) begun_there again again_served_so fresh))

  -- ---- each step

  pub served_on : (living : Living S V) (step : Step S) → IsServed setting living.joint.world → IsServed setting (goes_on setting place_of living step).joint.world
  served_on living (Begins keys draw) h = grows.served_step setting living.joint (joint.Begins keys draw) h
  served_on living (Does number deed) h = grows.served_step setting living.joint (joint.Does number deed) h
  served_on living (Answers call) h = answered_served grows setting call living.joint.world h
  served_on living (Spares now place) h = h
  served_on living (Crashes call left now) h =
      opened_served now (take left (owed_under_way setting place_of call living.joint.world)) living (under_way call left (begun_in living.records) living.joint.world h)

  pub fresh_on : (living : Living S V) (step : Step S) → IsServed setting living.joint.world → Fresh (goes_on setting place_of living step).joint.world → Fresh living.joint.world
  fresh_on living (Begins keys draw) h fresh = grows.words_step setting living.joint (joint.Begins keys draw) h fresh
  fresh_on living (Does number deed) h fresh = grows.words_step setting living.joint (joint.Does number deed) h fresh
  fresh_on living (Answers call) h fresh = answered_fresh grows setting call living.joint.world h fresh
  fresh_on living (Spares now place) h fresh = fresh
  fresh_on living (Crashes call left now) h fresh =
      opened_fresh now (take left (owed_under_way setting place_of call living.joint.world)) living (under_way call left (begun_in living.records) living.joint.world h) fresh

  fresh_from : (living : Living S V) (steps : List (Step S)) → IsServed setting living.joint.world → Fresh (living_from setting place_of living steps).joint.world
      → Fresh living.joint.world
  fresh_from living [] h fresh = fresh
  fresh_from living (step ∷ steps) h fresh =
      fresh_on living step h (fresh_from (goes_on setting place_of living step) steps (served_on living step h) fresh)

  -- ---- all is kept

  -- of a server with a journal: its world, and moments that there are
  pub record Holds (lock : Lock) (ring : List RingKey) (living : Living S V) : Type 0 where
    pub world : Keeps lock ring setting living.joint.world
    pub early : moment_in living.records ≤ latest_moment

  module _ (lock : Lock) (ring : List RingKey) (known : Known S V lock ring) (so : IsSealed lock ring setting) (sound : IsSound ring setting) where
    carried : (call : Option Call) (left now : ℕ) (living : Living S V) → IsLivingStepByNoChance setting living (Crashes call left now) → Keeps lock ring setting living.joint.world
        → Fresh (played_all setting (record { world = living.joint.world; begun = begun_in living.records }) (take left (owed_under_way setting place_of call living.joint.world))).world
        → Carries lock ring setting (played_all setting (record { world = living.joint.world; begun = begun_in living.records }) (take left (owed_under_way setting place_of call living.joint.world))).world
    carried None left now living chance k =
        taken_none (λ (front : List Record). Fresh (played_all setting (record { world = living.joint.world; begun = begun_in living.records }) front).world
        → Carries lock ring setting (played_all setting (record { world = living.joint.world; begun = begun_in living.records }) front).world) left
        (λ fresh. carries_of setting lock ring living.joint.world k)
    carried (Some call) left now living chance k =
        call_carried grows setting lock ring known so sound place_of left (begun_in living.records) living.joint.world k call chance

    ended_carried : (now moment place : ℕ) (begun : Option ℕ) (world : World S V) → IsServed setting world → Carries lock ring setting world
        → Fresh (played_all setting (record { world = world; begun = begun }) (ending_by now moment place begun)).world
        → Carries lock ring setting (played_all setting (record { world = world; begun = begun }) (ending_by now moment place begun)).world
    ended_carried now moment place None world h k fresh = k
    ended_carried now moment place (Some job) world h k fresh =
        cut_carried grows setting (max moment now) job world lock ring known so sound (lived_of setting world h) k fresh

    front_early : (call : Option Call) (left : ℕ) (living : Living S V) → living.joint.world.server.now ≤ latest_moment
        → AllByRecursion IsEarly (take left (owed_under_way setting place_of call living.joint.world))
    front_early None left living early = taken_none (AllByRecursion IsEarly) left tt
    front_early (Some call) left living early = all_taken IsEarly left (owed setting place_of call living.joint.world) (owed_early call living.joint.world early)

    module _ (call : Option Call) (left now : ℕ) (living : Living S V) (chance : IsLivingStepByNoChance setting living (Crashes call left now)) (k : Holds lock ring living)
        (fresh : Fresh (goes_on setting place_of living (Crashes call left now)).joint.world) where
      abbrev front : List Record
      front = take left (owed_under_way setting place_of call living.joint.world)

      its_way : Goes setting living.joint.world (played_all setting (record { world = living.joint.world; begun = begun_in living.records }) front).world
      its_way = under_way call left (begun_in living.records) living.joint.world k.world.served

      abbrev first : World S V
      first = there now front living its_way

      abbrev next : World S V
      next = again now front living its_way

      next_served : IsServed setting next
      next_served = again_served_so now front living its_way

      next_fresh : Fresh next
      next_fresh = ended_fresh (moment_of now) (moment_in (living.records ++ front)) (place_of next.draw) (begun_there now front living its_way) next next_served fresh

      kept_early : moment_in (living.records ++ front) ≤ latest_moment
      kept_early = behind_early living.records front k.early (front_early call left living k.world.steady.server.now)

      next_carried : Carries lock ring setting next
      next_carried =
          reborn_carried setting lock ring first (moment_in (living.records ++ front)) kept_early
          (carried call left now living chance k.world (fresh_reborn setting first (moment_in (living.records ++ front)) next_fresh))

      crash_kept : Holds lock ring (goes_on setting place_of living (Crashes call left now))
      crash_kept = record {
        world = keeps_of setting lock ring (goes_on setting place_of living (Crashes call left now)).joint.world
            (ended_carried (moment_of now) (moment_in (living.records ++ front)) (place_of next.draw) (begun_there now front living its_way) next next_served next_carried fresh)
            (opened_served now front living its_way);
        early = behind_early (living.records ++ front) (ending_by (moment_of now) (moment_in (living.records ++ front)) (place_of next.draw) (begun_there now front living its_way)) kept_early
            (ending_early now (moment_in (living.records ++ front)) (place_of next.draw) (begun_there now front living its_way) kept_early);
      }

    kept_on : (living : Living S V) (step : Step S) → IsLivingStepOf ring living step → IsLivingStepByNoChance setting living step
        → Fresh (goes_on setting place_of living step).joint.world → Holds lock ring living → Holds lock ring (goes_on setting place_of living step)
    kept_on living (Begins keys draw) of chance fresh k =
        record { world = known.step setting living.joint (joint.Begins keys draw) so sound of tt fresh k.world; early = k.early }
    kept_on living (Does number deed) of chance fresh k =
        record { world = known.step setting living.joint (joint.Does number deed) so sound of chance fresh k.world; early = k.early }
    kept_on living (Answers call) of chance fresh k = record {
      world = answered_kept grows setting lock ring known so sound call living.joint.world chance fresh k.world;
      early = behind_early living.records (owed setting place_of call living.joint.world) k.early (owed_early call living.joint.world k.world.steady.server.now);
    }
    kept_on living (Spares now place) of chance fresh k = record {
      world = k.world;
      early = behind_early living.records (take 1 (owed setting place_of (Work now place) living.joint.world)) k.early
          (all_taken IsEarly 1 (owed setting place_of (Work now place) living.joint.world) (owed_early (Work now place) living.joint.world k.world.steady.server.now));
    }
    kept_on living (Crashes call left now) of chance fresh k = crash_kept call left now living chance k fresh

    pub kept_from : (living : Living S V) (steps : List (Step S)) → AreOf ring setting place_of living steps → NoChance setting place_of living steps
        → Fresh (living_from setting place_of living steps).joint.world → Holds lock ring living → Holds lock ring (living_from setting place_of living steps)
    kept_from living [] of chance fresh k = k
    kept_from living (step ∷ steps) of chance fresh k =
        let later = goes_on setting place_of living step in
        kept_from later steps of.1 chance.1 fresh
        (kept_on living step of.0 chance.0 (fresh_from later steps (served_on living step k.world.served) fresh) k)
