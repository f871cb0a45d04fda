-- What is kept of a world behind an event, an attach, and where words are drawn from elsewhere.
use Rattle.std.proofs.Common.{◌≡◌, ℕ, List, true, arith}
use Rattle.auth_keys.specs.declared.ring.RingKey.{RingKey}
use Rattle.envelope.specs.Lawful.{OpensWhatItSealed}
use Rattle.envelope.specs.Packet.{Lock}
use Rattle.regs_service.specs.Served.{Served}
use Rattle.sched_text.specs.declared.event.Event.{Event}
use Rattle.sched_text.specs.declared.event.Event.TheVariants as line
use Rattle.server_rules.specs.Server.{Name}
use Rattle.law_moves.specs.World.{World as Moved}
use Rattle.world_rules.specs.Setting.{Setting, Keys as WorldKeys}
use Rattle.world_rules.specs.World.{World}
use Rattle.world_rules.specs.Once.{InOrder, Once, ran_in}
use Rattle.world_rules.specs.Premises.{Fresh, IsByNoChance, IsOfBytes, IsSealed, IsSound}
use Rattle.world_rules.specs.Run.{after}
use Rattle.envelope.specs.Sizes.{KeepsSizes}
use Rattle.law_server.specs.Order.{AreOrdered}
use Rattle.law_packets.specs.Lawful.{AreLawfulPackets, IsSteady, is_held}
use Rattle.law_once.specs.Served.{IsServed}
use Rattle.law_once.specs.Small.{Fits}
use Rattle.law_once.specs.Standing.{HasMoves, MovesOn, WorldStands}
use Rattle.law_order.specs.Keeping.{KeepsOrder, WaitingInOrder}
use Rattle.law_connections.specs.Joint.{at_moment, attaches, drawing, started}
use Rattle.law_connections.specs.Keeping.{Keeps}

-- what is known of each event of a world, and of the attach of a session of any name: what ran in each start, and words that differ
pub record Growing (S V : Type 0) : Type 0 where
  pub words : (setting : Setting S V) (world : World S V) (event : Event) → AreOrdered world.server.sessions world.server.jobs
      → Fresh (after setting world event) → Fresh world
  pub words_attached : (setting : Setting S V) (world : World S V) (name : Name) → AreOrdered world.server.sessions world.server.jobs
      → Fresh (attaches setting name world) → Fresh world
  pub served : (setting : Setting S V) (world : World S V) (event : Event) → IsServed setting world → IsServed setting (after setting world event)
  pub served_attached : (setting : Setting S V) (world : World S V) (name : Name) → IsServed setting world → IsServed setting (attaches setting name world)

-- and what is kept
pub record Laws (S V : Type 0) (lock : Lock) (ring : List RingKey) : Type 0 where
  pub growing : Growing S V
  pub seals : OpensWhatItSealed lock
  pub sizes : KeepsSizes lock
  pub steady : (setting : Setting S V) (world : World S V) (event : Event) → IsSealed lock ring setting → IsSound ring setting → IsOfBytes event
      → IsSteady lock ring setting world → IsSteady lock ring setting (after setting world event)
  pub steady_attached : (setting : Setting S V) (world : World S V) (name : Name) → IsSealed lock ring setting → IsSound ring setting
      → IsSteady lock ring setting world → IsSteady lock ring setting (attaches setting name world)
  pub moves : (setting : Setting S V) (w : Moved) (world : World S V) (event : Event) → IsSealed lock ring setting → Fits setting → WorldStands w world
      → AreLawfulPackets lock ring setting world → IsByNoChance setting world event → Fresh (after setting world event)
      → AreLawfulPackets lock ring setting (after setting world event) → MovesOn w (after setting world event)
  pub moves_attached : (setting : Setting S V) (w : Moved) (world : World S V) (name : Name) → Fits setting → WorldStands w world
      → Fresh (attaches setting name world) → AreLawfulPackets lock ring setting (attaches setting name world) → MovesOn w (attaches setting name world)
  pub order : (setting : Setting S V) (world : World S V) (event : Event) → IsSealed lock ring setting → HasMoves world
      → AreLawfulPackets lock ring setting world → IsByNoChance setting world event → KeepsOrder world → KeepsOrder (after setting world event)
  pub order_attached : (setting : Setting S V) (world : World S V) (name : Name) → HasMoves world → KeepsOrder world → KeepsOrder (attaches setting name world)
  pub in_order : (setting : Setting S V) (w : Moved) (world : World S V) (event : Event) → WorldStands w world → KeepsOrder world → Once setting world
      → InOrder world → Once setting (after setting world event) → WaitingInOrder (after setting world event) → InOrder (after setting world event)
  pub in_order_attached : (setting : Setting S V) (w : Moved) (world : World S V) (name : Name) → WorldStands w world → KeepsOrder world → Once setting world
      → InOrder world → Once setting (attaches setting name world) → WaitingInOrder (attaches setting name world) → InOrder (attaches setting name world)
  pub once : (setting : Setting S V) (w : Moved) (world : World S V) → WorldStands w world
      → ((start : ℕ) → Served setting.serve setting.fresh (ran_in start world.entries)) → Once setting world
  pub waiting : (setting : Setting S V) (w : Moved) (world : World S V) → WorldStands w world → Once setting world → KeepsOrder world → WaitingInOrder world

module _ {S V : Type 0} (lock : Lock) (ring : List RingKey) (laws : Laws S V lock ring) where
  -- ---- events

  module _ (setting : Setting S V) (so : IsSealed lock ring setting) (sound : IsSound ring setting) where
    abbrev Kept : World S V → Type 0
    Kept world = Keeps lock ring setting world

    fits : Fits setting
    fits = record { words = sound.words; replies = sound.replies }

    pub event_kept : (world : World S V) (event : Event) → IsOfBytes event → IsByNoChance setting world event → Fresh (after setting world event)
        → Kept world → Kept (after setting world event)
    event_kept world event bytes chance fresh k =
        let behind = after setting world event in
        let steady = laws.steady setting world event so sound bytes k.steady in
        let on = laws.moves setting k.moves.0 world event so fits k.moves.1 k.steady.bag chance fresh steady.bag in
        let moves : HasMoves behind = (_, on.2) in
        let served = laws.growing.served setting world event k.served in
        let order = laws.order setting world event so k.moves k.steady.bag chance k.order in
        let once = laws.once setting k.moves.0 world k.moves.1 k.served.past in
        let once_on = laws.once setting moves.0 behind moves.1 served.past in
        record {
          moves = moves;
          steady = steady;
          order = order;
          served = served;
          in_order = laws.in_order setting k.moves.0 world event k.moves.1 k.order once k.in_order once_on
              (laws.waiting setting moves.0 behind moves.1 once_on order);
        }

    pub attach_kept : (world : World S V) (name : Name) → Fresh (attaches setting name world) → Kept world → Kept (attaches setting name world)
    attach_kept world name fresh k =
        let behind = attaches setting name world in
        let steady = laws.steady_attached setting world name so sound k.steady in
        let on = laws.moves_attached setting k.moves.0 world name fits k.moves.1 fresh steady.bag in
        let moves : HasMoves behind = (_, on.2) in
        let served = laws.growing.served_attached setting world name k.served in
        let order = laws.order_attached setting world name k.moves k.order in
        let once = laws.once setting k.moves.0 world k.moves.1 k.served.past in
        let once_on = laws.once setting moves.0 behind moves.1 served.past in
        record {
          moves = moves;
          steady = steady;
          order = order;
          served = served;
          in_order = laws.in_order_attached setting k.moves.0 world name k.moves.1 k.order once k.in_order once_on
              (laws.waiting setting moves.0 behind moves.1 once_on order);
        }

  -- ---- what no event changes

  pub drawn_kept : (setting : Setting S V) (world : World S V) (draw : S) → Keeps lock ring setting world → Keeps lock ring setting (drawing draw world)
  drawn_kept setting world draw k =
      let h = k.moves.1 in
      record {
        moves = (k.moves.0, record { reached = h.reached; seats = h.seats; server = h.server; ordered = h.ordered; keys = h.keys; bag = h.bag; kept = h.kept });
        steady = record { seats = k.steady.seats; server = k.steady.server; bag = k.steady.bag };
        order = record { clients = k.order.clients; bag = k.order.bag; served = k.order.served };
        served = record { ordered = k.served.ordered; past = k.served.past; now = k.served.now; later = k.served.later };
        in_order = λ number place client call earlier before behind entered of is_earlier is named ran.
            k.in_order number place client call earlier before behind entered (record { clock = of.clock; seated = of.seated; submitted = of.submitted }) is_earlier is named ran;
      }

  pub clock_kept : (setting : Setting S V) (world : World S V) (now : ℕ) → Keeps lock ring setting world → Keeps lock ring setting (at_moment now world)
  clock_kept setting world now k =
      let h = k.moves.1 in
      record {
        moves = (k.moves.0, record { reached = h.reached; seats = h.seats; server = h.server; ordered = h.ordered; keys = h.keys; bag = h.bag; kept = h.kept });
        steady = record { seats = k.steady.seats; server = k.steady.server; bag = k.steady.bag };
        order = record { clients = k.order.clients; bag = k.order.bag; served = k.order.served };
        served = record { ordered = k.served.ordered; past = k.served.past; now = k.served.now; later = k.served.later };
        in_order = λ number place client call earlier before behind entered of is_earlier is named ran.
            k.in_order number place client call earlier before behind entered (record { clock = of.clock; seated = of.seated; submitted = of.submitted }) is_earlier is named ran;
      }

  -- a start draws words from elsewhere, and its server has been given no moment yet
  pub started_kept : (setting : Setting S V) (world : World S V) (draw : S) → Keeps lock ring setting (after setting world line.Restart)
      → Keeps lock ring setting (started setting draw world)
  started_kept setting world draw k =
      let h = k.moves.1 in
      let s = k.steady.server in
      record {
        moves = (k.moves.0, record { reached = h.reached; seats = h.seats; server = h.server; ordered = h.ordered; keys = h.keys; bag = h.bag; kept = h.kept });
        steady = record {
          seats = k.steady.seats;
          server = record { now = omega arith; kept = s.kept; room = s.room; replies = s.replies; jobs = s.jobs; keys = s.keys };
          bag = k.steady.bag;
        };
        order = record { clients = k.order.clients; bag = k.order.bag; served = k.order.served };
        served = record { ordered = k.served.ordered; past = k.served.past; now = k.served.now; later = k.served.later };
        in_order = λ number place client call earlier before behind entered of is_earlier is named ran.
            k.in_order number place client call earlier before behind entered (record { clock = of.clock; seated = of.seated; submitted = of.submitted }) is_earlier is named ran;
      }

  -- with which keys clients come doesn't matter to a world
  pub keys_kept : (setting : Setting S V) (keys : WorldKeys) (world : World S V) → Keeps lock ring setting world → Keeps lock ring (record setting { keys = keys }) world
  keys_kept setting keys world k = record {
    moves = k.moves;
    steady = record { seats = k.steady.seats; server = k.steady.server; bag = k.steady.bag };
    order = k.order;
    served = record { ordered = k.served.ordered; past = k.served.past; now = k.served.now; later = k.served.later };
    in_order = k.in_order;
  }

  pub keys_back : (setting : Setting S V) (keys : WorldKeys) (world : World S V) → Keeps lock ring (record setting { keys = keys }) world → Keeps lock ring setting world
  keys_back setting keys world k = record {
    moves = k.moves;
    steady = record { seats = k.steady.seats; server = k.steady.server; bag = k.steady.bag };
    order = k.order;
    served = record { ordered = k.served.ordered; past = k.served.past; now = k.served.now; later = k.served.later };
    in_order = k.in_order;
  }

  pub sealed_with : (setting : Setting S V) (keys : WorldKeys) → IsSealed lock ring setting → IsSealed lock ring (record setting { keys = keys })
  sealed_with setting keys so = record { sealed = so.sealed; opens = so.opens }

  pub sound_with : (setting : Setting S V) (keys : WorldKeys) → is_held ring keys.permanent ≡ true → is_held ring keys.temporary ≡ true → IsSound ring setting
      → IsSound ring (record setting { keys = keys })
  sound_with setting keys one other sound = record { permanent = one; temporary = other; words = sound.words; replies = sound.replies; bindings = sound.bindings }
