-- A run that was cut off: the server answers its call by lawful moves, and nothing ran.
use Rattle.std.proofs.Common.{◌≡◌, ◌∙◌, ℕ, suc, Bool, true, false, List, [], map, refl, sym, ap, subst}
use Rattle.std.specs.Prelude.{◌&&◌, ◌==◌}
use Rattle.std.specs.List.{AllByRecursion}
use Rattle.auth_keys.specs.declared.ring.RingKey.{RingKey}
use Rattle.envelope.specs.Packet.{Lock}
use Rattle.regs_service.specs.Served.{Ran, Served, requests_of, state_after}
use Rattle.sched_text.specs.declared.event.Event.{Event}
use Rattle.sched_text.specs.declared.event.Event.TheVariants as line
use Rattle.server_rules.specs.Event.{Entry}
use Rattle.server_rules.specs.Server.{name_of}
use Rattle.sess_journal.specs.Replay.{run_interrupted}
use Rattle.world_rules.specs.Setting.{Setting}
use Rattle.world_rules.specs.World.{Entered, World}
use Rattle.world_rules.specs.Once.{InOrder}
use Rattle.world_rules.specs.Premises.{Fresh, IsSealed, IsSound}
use Rattle.world_rules.specs.Run.{after}
use Rattle.law_moves.specs.Reached.{after_all}
use Rattle.law_packets.specs.Lawful.{IsSteady}
use Rattle.law_once.specs.Served.{IsServed}
use Rattle.law_once.specs.Small.{Fits}
use Rattle.law_once.specs.Standing.{HasMoves, WorldStands}
use Rattle.law_order.specs.After.{AreInTurn, IsAnswer, IsWaiting, Pair}
use Rattle.law_order.specs.Keeping.{ArePacketsFor, KeepsOrder, entries_in}
use Rattle.law_server_moves.specs.Servers.{lives_of}
use Rattle.law_server_moves.specs.Worlds.{past_in}
use Rattle.law_connections.specs.Joint.{at_moment}
use Rattle.law_crashes.specs.Records.{cut_off, entered_by, replying, unran_in}
use Rattle.law_crashes.proofs.Lists.{all_front, in_front}
use Rattle.law_crashes.proofs.Entries.{IsOf, entry_in, honest_behind, map_behind, none_ran, none_ran_in, runs_are, same_runs, still_entered, well_behind}
use Rattle.law_crashes.proofs.Interruption.{is_bad, is_bytes, is_reply}
use Rattle.law_crashes.proofs.Worlds.{Carries, Growing, Known, Lived, fresh_at}

last : (a b c : Bool) → (a && (b && c)) ≡ true → c ≡ true
last true true c is = is
last true false c is = absurd (let e : false ≡ true = is in cc)
last false b c is = absurd (let e : false ≡ true = is in cc)

module _ {S V : Type 0} (grows : Growing S V) (setting : Setting S V) (moment place : ℕ) (world : World S V) where
  -- the service gives the answer
  abbrev given : Setting S V
  given = replying run_interrupted setting

  abbrev event : Event
  event = line.Work (suc place)

  abbrev here : World S V
  here = at_moment moment world

  abbrev done : World S V
  done = after given here event

  abbrev more : List Entry
  more = entered_by setting moment place run_interrupted world

  abbrev cut : World S V
  cut = cut_off setting moment place world

  -- by a world without entries: the server is in order, and what ran has the answer
  abbrev by_itself : Setting S V
  by_itself = record given { fresh = world.service }

  abbrev bare : World S V
  bare = record here { entries = [] }

  alone : Lived setting world → IsServed by_itself (after by_itself bare event)
  alone h = grows.served by_itself bare event (record { ordered = h.ordered; past = λ start. refl; now = refl; later = λ start above. refl })

  ran_so : Lived setting world → AllByRecursion (IsOf run_interrupted) more
  ran_so h = runs_are run_interrupted world.service world.start more ((alone h).past world.start)

  pub cut_lived : Lived setting world → Lived setting cut
  cut_lived h = record {
    ordered = (alone h).ordered;
    past = λ start. subst (λ (l : List Ran). Served setting.serve setting.fresh l) (sym (same_runs start world.start world.entries more)) (h.past start);
    later = λ start above. same_runs start world.start world.entries more ∙ h.later start above;
  }

  pub cut_served : IsServed setting world → IsServed setting cut
  cut_served h =
      let l = cut_lived (record { ordered = h.ordered; past = h.past; later = h.later }) in
      record {
        ordered = l.ordered;
        past = l.past;
        now = ap (λ (runs : List Ran). state_after setting.serve setting.fresh (requests_of runs))
            (same_runs world.start world.start world.entries more) ∙ h.now;
        later = l.later;
      }

  fresh_done : Fresh cut → Fresh done
  fresh_done fresh = record { some = fresh.some; apart = fresh.apart }

  pub cut_fresh : Lived setting world → Fresh cut → Fresh world
  cut_fresh h fresh = fresh_at setting world moment (grows.words given here event h.ordered (fresh_done fresh))

  -- ---- what is kept

  module _ (lock : Lock) (ring : List RingKey) (known : Known S V lock ring) (so : IsSealed lock ring setting) (sound : IsSound ring setting) where
    given_so : IsSealed lock ring given
    given_so = record { sealed = so.sealed; opens = so.opens }

    given_sound : IsSound ring given
    given_sound = record {
      permanent = sound.permanent;
      temporary = sound.temporary;
      words = sound.words;
      replies = λ service request. (is_reply, is_bytes);
      bindings = sound.bindings;
    }

    given_fits : Fits given
    given_fits = record { words = sound.words; replies = given_sound.replies }

    module _ (h : Lived setting world) (k : Carries lock ring setting world) (fresh : Fresh cut) where
      stands_here : WorldStands k.moves.0 here
      stands_here =
          let s = k.moves.1 in
          record { reached = s.reached; seats = s.seats; server = s.server; ordered = s.ordered; keys = s.keys; bag = s.bag; kept = s.kept }

      steady_here : IsSteady lock ring given here
      steady_here = record { seats = k.steady.seats; server = k.steady.server; bag = k.steady.bag }

      steady_done : IsSteady lock ring given done
      steady_done = known.steady given here event given_so given_sound tt steady_here

      moved : HasMoves cut
      moved =
          let on = known.moves given k.moves.0 here event given_so given_fits stands_here k.steady.bag tt (fresh_done fresh) steady_done.bag in
          let w = after_all k.moves.0 on.0 in
          let d : WorldStands w done = on.2 in
          let s = d.server in (
            w,
            record {
              reached = d.reached;
              seats = d.seats;
              server = record {
                standing = s.standing;
                working = s.working;
                gone = s.gone;
                apart = s.apart;
                only = s.only;
                entered = still_entered (lives_of (past_in done) done.server.sessions) world.start world.entries more w.entries s.entered;
              };
              ordered = d.ordered;
              keys = d.keys;
              bag = d.bag;
              kept = d.kept;
            },
          )

      order_here : KeepsOrder here
      order_here = record { clients = k.order.clients; bag = k.order.bag; served = k.order.served }

      order_done : KeepsOrder done
      order_done = known.order given here event given_so (k.moves.0, stands_here) k.steady.bag tt order_here

      turn : (pair : Pair) → ArePacketsFor pair cut.bag → AreInTurn pair done.server.sessions done.server.jobs (entries_in done)
          → AreInTurn pair cut.server.sessions cut.server.jobs (entries_in cut)
      turn pair for t =
          let runs = ran_so h in
          let same = well_behind run_interrupted is_bad pair.name pair.earlier world.start world.entries more runs in
          let before_it : ArePacketsFor pair world.bag = all_front _ world.bag _ for in
          record {
            waiting = subst (λ (b : Bool). AllByRecursion (IsWaiting pair (b ≡ true)) done.server.jobs) same t.waiting;
            answers = subst (λ (b : Bool). AllByRecursion (λ session. name_of session ≡ pair.name → AllByRecursion (IsAnswer pair (b ≡ true)) session.replies) done.server.sessions) same t.answers;
            behind = λ before behind entry is ran.
                let front = in_front (λ (one : Entry). one.ran) (entries_in world) (map entry_in (unran_in world.start more)) before behind entry
                (sym (map_behind world.entries (unran_in world.start more)) ∙ is) (none_ran_in world.start more) (last _ (entry.number == pair.call) entry.ran ran) in
                (k.order.served pair before_it).behind before front.0 entry front.1 ran;
            honest = honest_behind run_interrupted is_bad world.start world.entries more runs t.honest;
          }

      order_cut : KeepsOrder cut
      order_cut = record { clients = order_done.clients; bag = order_done.bag; served = λ pair for. turn pair for (order_done.served pair for) }

      in_order_cut : InOrder cut
      in_order_cut = λ number at client call earlier before behind entered of is_earlier is named ran.
          let front = in_front (λ (one : Entered). one.entry.ran) world.entries (unran_in world.start more) before behind entered is (none_ran world.start more) ran in
          k.in_order number at client call earlier before front.0 entered (record { clock = of.clock; seated = of.seated; submitted = of.submitted }) is_earlier front.1 named ran

      pub cut_carried : Carries lock ring setting cut
      cut_carried = record {
        moves = moved;
        steady = record { seats = steady_done.seats; server = steady_done.server; bag = steady_done.bag };
        order = order_cut;
        in_order = in_order_cut;
      }
