-- What is kept of a world apart from its service, and what is known of its events.
use Rattle.std.proofs.Common.{◌≡◌, ℕ, suc, ◌<◌, ◌≤◌, List, [], ap, arith}
use Rattle.auth_keys.specs.declared.ring.RingKey.{RingKey}
use Rattle.envelope.specs.Packet.{Lock}
use Rattle.msg_ids.specs.Moments.{latest_moment}
use Rattle.regs_service.specs.Served.{Ran, Served, requests_of, state_after}
use Rattle.sched_text.specs.declared.event.Event.{Event}
use Rattle.server_rules.specs.Server.{Name}
use Rattle.world_rules.specs.Setting.{Setting}
use Rattle.world_rules.specs.World.{World}
use Rattle.world_rules.specs.Once.{InOrder, ran_in}
use Rattle.world_rules.specs.Premises.{Fresh, IsByNoChance, IsOfBytes, IsSealed, IsSound}
use Rattle.world_rules.specs.Run.{after}
use Rattle.law_moves.specs.World.{World as Moved}
use Rattle.law_server.specs.Order.{AreOrdered}
use Rattle.law_packets.specs.Lawful.{AreLawfulPackets, IsSteady}
use Rattle.law_once.specs.Served.{IsServed}
use Rattle.law_once.specs.Small.{Fits}
use Rattle.law_once.specs.Standing.{HasMoves, MovesOn, WorldStands}
use Rattle.law_order.specs.Keeping.{KeepsOrder}
use Rattle.law_connections.specs.Joint.{Joint, Step, at_moment, attaches, steps_on}
use Rattle.law_connections.specs.Keeping.{Keeps}
use Rattle.law_connections.specs.Premises.{IsStepByNoChance, IsStepOf}
use Rattle.law_crashes.specs.Crashes.{another_life}

-- ---- what is known

-- of words and of what the service replied, with no premise
pub record Growing (S V : Type 0) : Type 0 where
  pub words : (setting : Setting S V) (world : World S V) (event : Event) → AreOrdered world.server.sessions world.server.jobs
      → Fresh (after setting world event) → Fresh world
  pub words_attached : (setting : Setting S V) (world : World S V) (name : Name) → AreOrdered world.server.sessions world.server.jobs
      → Fresh (attaches setting name world) → Fresh world
  pub words_step : (setting : Setting S V) (joint : Joint S V) (step : Step S) → IsServed setting joint.world → Fresh (steps_on setting joint step).world → Fresh joint.world
  pub served : (setting : Setting S V) (world : World S V) (event : Event) → IsServed setting world → IsServed setting (after setting world event)
  pub served_attached : (setting : Setting S V) (world : World S V) (name : Name) → IsServed setting world → IsServed setting (attaches setting name world)
  pub served_step : (setting : Setting S V) (joint : Joint S V) (step : Step S) → IsServed setting joint.world → IsServed setting (steps_on setting joint step).world

-- of what is kept, under a lock and a ring
pub record Known (S V : Type 0) (lock : Lock) (ring : List RingKey) : Type 0 where
  pub event : (setting : Setting S V) (world : World S V) (event : Event) → IsSealed lock ring setting → IsSound ring setting → IsOfBytes event
      → IsByNoChance setting world event → Fresh (after setting world event) → Keeps lock ring setting world → Keeps lock ring setting (after setting world event)
  pub attach : (setting : Setting S V) (world : World S V) (name : Name) → IsSealed lock ring setting → IsSound ring setting → Fresh (attaches setting name world)
      → Keeps lock ring setting world → Keeps lock ring setting (attaches setting name world)
  pub step : (setting : Setting S V) (joint : Joint S V) (step : Step S) → IsSealed lock ring setting → IsSound ring setting → IsStepOf ring joint step
      → IsStepByNoChance setting joint step → Fresh (steps_on setting joint step).world → Keeps lock ring setting joint.world
      → Keeps lock ring setting (steps_on setting joint step).world
  -- the parts of that, for a service that gives one reply
  pub steady : (setting : Setting S V) (world : World S V) (event : Event) → IsSealed lock ring setting → IsSound ring setting → IsOfBytes event
      → IsSteady lock ring setting world → IsSteady lock ring setting (after setting world event)
  pub moves : (setting : Setting S V) (w : Moved) (world : World S V) (event : Event) → IsSealed lock ring setting → Fits setting → WorldStands w world
      → AreLawfulPackets lock ring setting world → IsByNoChance setting world event → Fresh (after setting world event)
      → AreLawfulPackets lock ring setting (after setting world event) → MovesOn w (after setting world event)
  pub order : (setting : Setting S V) (world : World S V) (event : Event) → IsSealed lock ring setting → HasMoves world
      → AreLawfulPackets lock ring setting world → IsByNoChance setting world event → KeepsOrder world → KeepsOrder (after setting world event)

-- ---- what is kept but for the service

pub record Carries {S V : Type 0} (lock : Lock) (ring : List RingKey) (setting : Setting S V) (world : World S V) : Type 0 where
  pub moves : HasMoves world
  pub steady : IsSteady lock ring setting world
  pub order : KeepsOrder world
  pub in_order : InOrder world

-- what its service replied in each life, whatever state it is in
pub record Lived {S V : Type 0} (setting : Setting S V) (world : World S V) : Type 0 where
  pub ordered : AreOrdered world.server.sessions world.server.jobs
  pub past : (start : ℕ) → Served setting.serve setting.fresh (ran_in start world.entries)
  pub later : (start : ℕ) → world.start < start → ran_in start world.entries ≡ []

module _ {S V : Type 0} (setting : Setting S V) where
  pub lived_of : (world : World S V) → IsServed setting world → Lived setting world
  lived_of world h = record { ordered = h.ordered; past = h.past; later = h.later }

  pub again_served : (world : World S V) (now : ℕ) → IsServed setting world → IsServed setting (at_moment now world)
  again_served world now h = record { ordered = h.ordered; past = h.past; now = h.now; later = h.later }

  -- another life's service is fresh, and nothing ran in it yet
  pub reborn : (world : World S V) (moment : ℕ) → Lived setting world → IsServed setting (another_life setting moment world)
  reborn world moment h = record {
    ordered = h.ordered;
    past = h.past;
    now = ap (λ (l : List Ran). state_after setting.serve setting.fresh (requests_of l)) (h.later (suc world.start) (omega arith));
    later = λ start above. h.later start (let below : suc world.start < start = above in omega (arith, below));
  }

  -- a world with another clock and service
  abbrev pub otherwise : (clock : ℕ) → V → World S V → World S V
  otherwise clock service world = record world { clock = clock; service = service }

  pub otherwise_lived : (world : World S V) (clock : ℕ) (service : V) → Lived setting world → Lived setting (otherwise clock service world)
  otherwise_lived world clock service h = record { ordered = h.ordered; past = h.past; later = h.later }

  pub fresh_at : (world : World S V) (now : ℕ) → Fresh (at_moment now world) → Fresh world
  fresh_at world now fresh = record { some = fresh.some; apart = fresh.apart }

  pub fresh_otherwise : (world : World S V) (clock : ℕ) (service : V) → Fresh (otherwise clock service world) → Fresh world
  fresh_otherwise world clock service fresh = record { some = fresh.some; apart = fresh.apart }

  pub fresh_reborn : (world : World S V) (moment : ℕ) → Fresh (another_life setting moment world) → Fresh world
  fresh_reborn world moment fresh = record { some = fresh.some; apart = fresh.apart }

  module _ (lock : Lock) (ring : List RingKey) where
    pub carries_of : (world : World S V) → Keeps lock ring setting world → Carries lock ring setting world
    carries_of world k = record { moves = k.moves; steady = k.steady; order = k.order; in_order = k.in_order }

    pub keeps_of : (world : World S V) → Carries lock ring setting world → IsServed setting world → Keeps lock ring setting world
    keeps_of world k h = record { moves = k.moves; steady = k.steady; order = k.order; served = h; in_order = k.in_order }

    pub otherwise_carried : (world : World S V) (clock : ℕ) (service : V) → Carries lock ring setting world → Carries lock ring setting (otherwise clock service world)
    otherwise_carried world clock service k =
        let h = k.moves.1 in
        record {
          moves = (k.moves.0, record { reached = h.reached; seats = h.seats; server = h.server; ordered = h.ordered; keys = h.keys; bag = h.bag; kept = h.kept });
          steady = record { seats = k.steady.seats; server = k.steady.server; bag = k.steady.bag };
          order = record { clients = k.order.clients; bag = k.order.bag; served = k.order.served };
          in_order = λ number place client call earlier before behind entered of is_earlier is named ran.
              k.in_order number place client call earlier before behind entered (record { clock = of.clock; seated = of.seated; submitted = of.submitted }) is_earlier is named ran;
        }

    pub reborn_carried : (world : World S V) (moment : ℕ) → moment ≤ latest_moment → Carries lock ring setting world → Carries lock ring setting (another_life setting moment world)
    reborn_carried world moment early k =
        let h = k.moves.1 in
        let s = k.steady.server in
        record {
          moves = (k.moves.0, record { reached = h.reached; seats = h.seats; server = h.server; ordered = h.ordered; keys = h.keys; bag = h.bag; kept = h.kept });
          steady = record {
            seats = k.steady.seats;
            server = record { now = early; kept = s.kept; room = s.room; replies = s.replies; jobs = s.jobs; keys = s.keys };
            bag = k.steady.bag;
          };
          order = record { clients = k.order.clients; bag = k.order.bag; served = k.order.served };
          in_order = λ number place client call earlier before behind entered of is_earlier is named ran.
              k.in_order number place client call earlier before behind entered (record { clock = of.clock; seated = of.seated; submitted = of.submitted }) is_earlier is named ran;
        }
