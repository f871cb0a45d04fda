-- Each step of a joint run keeps what is kept of its world.
use Rattle.std.proofs.Common.{◌≡◌, ℕ, Option, Some, None, List, true}
use Rattle.std.specs.Prelude.{IfSome}
use Rattle.auth_keys.specs.declared.ring.RingKey.{RingKey}
use Rattle.envelope.specs.Packet.{Lock}
use Rattle.draws.specs.Draws.{draw_after}
use Rattle.sched_text.specs.declared.event.Event.TheVariants as line
use Rattle.server_node.specs.Trace.{Act, Attach, Hear, Run, Tick}
use Rattle.client_core.specs.Keys.{BoundTo}
use Rattle.world_rules.specs.Setting.{Setting, Keys as WorldKeys}
use Rattle.world_rules.specs.World.{World, counted}
use Rattle.world_rules.specs.Premises.{Fresh, IsSealed, IsSound}
use Rattle.world_rules.specs.Run.{after, joins}
use Rattle.law_packets.specs.Lawful.{is_held}
use Rattle.law_once.specs.Served.{IsServed}
use Rattle.law_connections.specs.Joint.{Deed, Joint, Step, Attaches, Begins, Does, Draws, Flushes, Hears, Renews, Serves, Starts, Submits, at_client_moment, at_moment, begun, did, does, drawing, served, started, steps_on, temporary_in}
use Rattle.law_connections.specs.Keeping.{Keeps}
use Rattle.law_connections.specs.Premises.{IsByNoChanceDown, IsByNoChanceUp, IsOfBytes, IsStepByNoChance, IsStepOf}
use Rattle.law_connections.proofs.Worlds.{Growing, Laws, attach_kept, clock_kept, drawn_kept, event_kept, keys_back, keys_kept, sealed_with, sound_with, started_kept}

-- the keys of a world that a client comes with
abbrev keys_with : ℕ → Option BoundTo → WorldKeys
keys_with key None = record { permanent = key; temporary = key; expires = 0 }
keys_with key (Some one) = record { permanent = one.perm; temporary = key; expires = one.expires }

module _ {S V : Type 0} (grows : Growing S V) (setting : Setting S V) where
  -- ---- the server is in order

  again : (world : World S V) (draw : S) (now : ℕ) → IsServed setting world → IsServed setting (record world { draw = draw; clock = now })
  again world draw now h = record { ordered = h.ordered; past = h.past; now = h.now; later = h.later }

  served_by : (act : Act) (world : World S V) → IsServed setting world → IsServed setting (served setting act world)
  served_by (Hear now packet) world h = grows.served setting (at_moment now world) (line.ForeignServer packet) (again world world.draw now h)
  served_by (Attach now name) world h = grows.served_attached setting (at_moment now world) (record { key = name.key; session = name.session }) (again world world.draw now h)
  served_by (Tick now) world h = grows.served setting (at_moment now world) line.TickServer (again world world.draw now h)
  served_by (Run now) world h = grows.served setting (at_moment now world) (line.Work 1) (again world world.draw now h)

  served_started : (draw : S) (world : World S V) → IsServed setting world → IsServed setting (started setting draw world)
  served_started draw world h =
      let on = grows.served setting world line.Restart h in
      record { ordered = on.ordered; past = on.past; now = on.now; later = on.later }

  served_begun : (key : ℕ) (bound : Option BoundTo) (world : World S V) → IsServed setting world → IsServed setting (joins setting key (temporary_in bound) world)
  served_begun key None world h = record { ordered = h.ordered; past = h.past; now = h.now; later = h.later }
  served_begun key (Some one) world h = record { ordered = h.ordered; past = h.past; now = h.now; later = h.later }

  served_did : (number : ℕ) (deed : Deed) (world : World S V) → IsServed setting world → IsServed setting (did setting number deed world)
  served_did number (Submits body earlier) world h = grows.served setting world (line.Call number body earlier) h
  served_did number (Draws words) world h = again world (draw_after setting.step words world.draw) world.clock h
  served_did number Attaches world h = grows.served setting world (line.AttachClient number) h
  served_did number Renews world h = grows.served setting world (line.Renew number) h
  served_did number (Flushes now) world h =
      grows.served setting (at_client_moment setting number now world) (line.Flush number) (grows.served setting world (line.ClockClient number now) h)
  served_did number (Hears now packet) world h =
      grows.served setting (at_client_moment setting number now world) (line.ForeignClient number packet) (grows.served setting world (line.ClockClient number now) h)

  served_does : (number : ℕ) (deed : Deed) (found : Option S) (joint : Joint S V) → IsServed setting joint.world → IsServed setting (does setting number deed found joint).world
  served_does number deed None joint h = h
  served_does number deed (Some draw) joint h =
      let there = did setting number deed (drawing draw joint.world) in
      again there joint.world.draw there.clock (served_did number deed (drawing draw joint.world) (again joint.world draw joint.world.clock h))

  pub served_on : (step : Step S) (joint : Joint S V) → IsServed setting joint.world → IsServed setting (steps_on setting joint step).world
  served_on (Serves act) joint h = served_by act joint.world h
  served_on (Starts draw) joint h = served_started draw joint.world h
  served_on (Begins keys draw) joint h =
      let there = begun setting keys (drawing draw joint.world) in
      again there joint.world.draw there.clock (served_begun keys.key keys.bound_to (drawing draw joint.world) (again joint.world draw joint.world.clock h))
  served_on (Does number deed) joint h = served_does number deed (counted number joint.draws) joint h

  -- ---- words that are new behind a step were so before it

  fresh_again : (world : World S V) (draw : S) (now : ℕ) → Fresh (record world { draw = draw; clock = now }) → Fresh world
  fresh_again world draw now fresh = record { some = fresh.some; apart = fresh.apart }

  abbrev Ordered : World S V → Type 0
  Ordered world = IsServed setting world

  fresh_served : (act : Act) (world : World S V) → Ordered world → Fresh (served setting act world) → Fresh world
  fresh_served (Hear now packet) world h fresh = fresh_again world world.draw now (grows.words setting (at_moment now world) (line.ForeignServer packet) h.ordered fresh)
  fresh_served (Attach now name) world h fresh = fresh_again world world.draw now (grows.words_attached setting (at_moment now world) (record { key = name.key; session = name.session }) h.ordered fresh)
  fresh_served (Tick now) world h fresh = fresh_again world world.draw now (grows.words setting (at_moment now world) line.TickServer h.ordered fresh)
  fresh_served (Run now) world h fresh = fresh_again world world.draw now (grows.words setting (at_moment now world) (line.Work 1) h.ordered fresh)

  fresh_restarted : (draw : S) (world : World S V) → Fresh (started setting draw world) → Fresh (after setting world line.Restart)
  fresh_restarted draw world fresh = record { some = fresh.some; apart = fresh.apart }

  fresh_started : (draw : S) (world : World S V) → Ordered world → Fresh (started setting draw world) → Fresh world
  fresh_started draw world h fresh = grows.words setting world line.Restart h.ordered (fresh_restarted draw world fresh)

  fresh_begun : (key : ℕ) (bound : Option BoundTo) (world : World S V) → Ordered world → Fresh (joins setting key (temporary_in bound) world) → Fresh world
  fresh_begun key None world h fresh = grows.words (record setting { keys = keys_with key None }) world line.Client h.ordered fresh
  fresh_begun key (Some one) world h fresh = grows.words (record setting { keys = keys_with key (Some one) }) world line.ClientTemp h.ordered fresh

  fresh_timed : (number now : ℕ) (world : World S V) → Ordered world → Fresh (at_client_moment setting number now world) → Fresh world
  fresh_timed number now world h fresh = grows.words setting world (line.ClockClient number now) h.ordered fresh

  fresh_did : (number : ℕ) (deed : Deed) (world : World S V) → Ordered world → Fresh (did setting number deed world) → Fresh world
  fresh_did number (Submits body earlier) world h fresh = grows.words setting world (line.Call number body earlier) h.ordered fresh
  fresh_did number (Draws words) world h fresh = fresh_again world (draw_after setting.step words world.draw) world.clock fresh
  fresh_did number Attaches world h fresh = grows.words setting world (line.AttachClient number) h.ordered fresh
  fresh_did number Renews world h fresh = grows.words setting world (line.Renew number) h.ordered fresh
  fresh_did number (Flushes now) world h fresh =
      let timed = grows.served setting world (line.ClockClient number now) h in
      fresh_timed number now world h (grows.words setting (at_client_moment setting number now world) (line.Flush number) timed.ordered fresh)
  fresh_did number (Hears now packet) world h fresh =
      let timed = grows.served setting world (line.ClockClient number now) h in
      fresh_timed number now world h (grows.words setting (at_client_moment setting number now world) (line.ForeignClient number packet) timed.ordered fresh)

  fresh_does : (number : ℕ) (deed : Deed) (found : Option S) (joint : Joint S V) → Ordered joint.world → Fresh (does setting number deed found joint).world → Fresh joint.world
  fresh_does number deed None joint h fresh = fresh
  fresh_does number deed (Some draw) joint h fresh =
      let here = drawing draw joint.world in
      fresh_again joint.world draw joint.world.clock
      (fresh_did number deed here (again joint.world draw joint.world.clock h) (fresh_again (did setting number deed here) joint.world.draw (did setting number deed here).clock fresh))

  pub fresh_on : (step : Step S) (joint : Joint S V) → Ordered joint.world → Fresh (steps_on setting joint step).world → Fresh joint.world
  fresh_on (Serves act) joint h fresh = fresh_served act joint.world h fresh
  fresh_on (Starts draw) joint h fresh = fresh_started draw joint.world h fresh
  fresh_on (Begins keys draw) joint h fresh =
      let here = drawing draw joint.world in
      let there = begun setting keys here in
      fresh_again joint.world draw joint.world.clock
      (fresh_begun keys.key keys.bound_to here (again joint.world draw joint.world.clock h) (fresh_again there joint.world.draw there.clock fresh))
  fresh_on (Does number deed) joint h fresh = fresh_does number deed (counted number joint.draws) joint h fresh

  -- ---- all is kept

  module _ (lock : Lock) (ring : List RingKey) (laws : Laws S V lock ring) (so : IsSealed lock ring setting) (sound : IsSound ring setting) where
    abbrev Kept : World S V → Type 0
    Kept world = Keeps lock ring setting world

    kept_served : (act : Act) (world : World S V) → IsByNoChanceUp setting world act → Fresh (served setting act world) → Kept world → Kept (served setting act world)
    kept_served (Hear now packet) world chance fresh k =
        event_kept lock ring laws setting so sound (at_moment now world) (line.ForeignServer packet) tt chance fresh (clock_kept lock ring laws setting world now k)
    kept_served (Attach now name) world chance fresh k =
        attach_kept lock ring laws setting so sound (at_moment now world) (record { key = name.key; session = name.session }) fresh (clock_kept lock ring laws setting world now k)
    kept_served (Tick now) world chance fresh k =
        event_kept lock ring laws setting so sound (at_moment now world) line.TickServer tt tt fresh (clock_kept lock ring laws setting world now k)
    kept_served (Run now) world chance fresh k =
        event_kept lock ring laws setting so sound (at_moment now world) (line.Work 1) tt tt fresh (clock_kept lock ring laws setting world now k)

    kept_begun : (key : ℕ) (bound : Option BoundTo) (world : World S V) → is_held ring key ≡ true → IfSome bound (λ one. is_held ring one.perm ≡ true)
        → Fresh (joins setting key (temporary_in bound) world) → Kept world → Kept (joins setting key (temporary_in bound) world)
    kept_begun key None world held perm fresh k =
        let keys = keys_with key None in
        keys_back lock ring laws setting keys (joins setting key (temporary_in None) world)
        (event_kept lock ring laws (record setting { keys = keys }) (sealed_with lock ring laws setting keys so) (sound_with lock ring laws setting keys held held sound)
        world line.Client tt tt fresh (keys_kept lock ring laws setting keys world k))
    kept_begun key (Some one) world held perm fresh k =
        let keys = keys_with key (Some one) in
        keys_back lock ring laws setting keys (joins setting key (temporary_in (Some one)) world)
        (event_kept lock ring laws (record setting { keys = keys }) (sealed_with lock ring laws setting keys so) (sound_with lock ring laws setting keys perm held sound)
        world line.ClientTemp tt tt fresh (keys_kept lock ring laws setting keys world k))

    -- the same bytes open, whatever words are drawn from
    only_drawing : (number : ℕ) (deed : Deed) (world : World S V) (draw : S) → IsByNoChanceDown setting world number deed → IsByNoChanceDown setting (drawing draw world) number deed
    only_drawing number (Hears now packet) world draw chance = λ seat at envelope opened.
        let made = chance seat at envelope opened in
        record { packet = made.packet; made = made.made; way = made.way; same = made.same }
    only_drawing number (Submits body earlier) world draw chance = tt
    only_drawing number (Draws words) world draw chance = tt
    only_drawing number Attaches world draw chance = tt
    only_drawing number Renews world draw chance = tt
    only_drawing number (Flushes now) world draw chance = tt

    timed_kept : (number now : ℕ) (world : World S V) → Fresh (at_client_moment setting number now world) → Kept world → Kept (at_client_moment setting number now world)
    timed_kept number now world fresh k = event_kept lock ring laws setting so sound world (line.ClockClient number now) tt tt fresh k

    kept_did : (number : ℕ) (deed : Deed) (world : World S V) → IsOfBytes deed → IsByNoChanceDown setting world number deed → Fresh (did setting number deed world)
        → Kept world → Kept (did setting number deed world)
    kept_did number (Submits body earlier) world bytes chance fresh k = event_kept lock ring laws setting so sound world (line.Call number body earlier) bytes tt fresh k
    kept_did number (Draws words) world bytes chance fresh k = drawn_kept lock ring laws setting world (draw_after setting.step words world.draw) k
    kept_did number Attaches world bytes chance fresh k = event_kept lock ring laws setting so sound world (line.AttachClient number) tt tt fresh k
    kept_did number Renews world bytes chance fresh k = event_kept lock ring laws setting so sound world (line.Renew number) tt tt fresh k
    kept_did number (Flushes now) world bytes chance fresh k =
        let here = at_client_moment setting number now world in
        let timed = grows.served setting world (line.ClockClient number now) k.served in
        event_kept lock ring laws setting so sound here (line.Flush number) tt tt fresh
        (timed_kept number now world (grows.words setting here (line.Flush number) timed.ordered fresh) k)
    kept_did number (Hears now packet) world bytes chance fresh k =
        let here = at_client_moment setting number now world in
        let timed = grows.served setting world (line.ClockClient number now) k.served in
        event_kept lock ring laws setting so sound here (line.ForeignClient number packet) tt chance fresh
        (timed_kept number now world (grows.words setting here (line.ForeignClient number packet) timed.ordered fresh) k)

    kept_does : (number : ℕ) (deed : Deed) (found : Option S) (joint : Joint S V) → IfSome found (λ draw. IsOfBytes deed) → IsByNoChanceDown setting joint.world number deed
        → Fresh (does setting number deed found joint).world → Kept joint.world → Kept (does setting number deed found joint).world
    kept_does number deed None joint bytes chance fresh k = k
    kept_does number deed (Some draw) joint bytes chance fresh k =
        let here = drawing draw joint.world in
        let there = did setting number deed here in
        drawn_kept lock ring laws setting there joint.world.draw
        (kept_did number deed here bytes (only_drawing number deed joint.world draw chance) (fresh_again there joint.world.draw there.clock fresh)
        (drawn_kept lock ring laws setting joint.world draw k))

    pub kept_on : (step : Step S) (joint : Joint S V) → IsStepOf ring joint step → IsStepByNoChance setting joint step → Fresh (steps_on setting joint step).world
        → Kept joint.world → Kept (steps_on setting joint step).world
    kept_on (Serves act) joint of chance fresh k = kept_served act joint.world chance fresh k
    kept_on (Starts draw) joint of chance fresh k =
        started_kept lock ring laws setting joint.world draw
        (event_kept lock ring laws setting so sound joint.world line.Restart tt tt (fresh_restarted draw joint.world fresh) k)
    kept_on (Begins keys draw) joint of chance fresh k =
        let here = drawing draw joint.world in
        let there = begun setting keys here in
        drawn_kept lock ring laws setting there joint.world.draw
        (kept_begun keys.key keys.bound_to here of.key of.perm (fresh_again there joint.world.draw there.clock fresh) (drawn_kept lock ring laws setting joint.world draw k))
    kept_on (Does number deed) joint of chance fresh k = kept_does number deed (counted number joint.draws) joint of chance fresh k
