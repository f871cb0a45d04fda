use Rattle.std.proofs.Common.{ℕ, List, arith}
use Rattle.auth_keys.specs.declared.ring.RingKey.{RingKey}
use Rattle.envelope.specs.Lawful.{OpensWhatItSealed}
use Rattle.envelope.specs.Packet.{Lock}
use Rattle.world_rules.specs.Setting.{Setting}
use Rattle.world_rules.specs.Premises.{Fresh, IsSealed, IsSound}
use Rattle.envelope.specs.Sizes.{KeepsSizes}
use Rattle.law_crashes.specs.Crashes.{Step, created, living_of}
use Rattle.law_crashes.specs.Premises.{AreOf, NoChance}
use Rattle.law_crashes.proofs.Worlds.{Growing, Known}
use Rattle.law_crashes.proofs.Steps.{Holds, kept_from}
use Rattle.law_crashes.proofs.laws.crashes_execute_once.Goals as goal

module _ (g : Rattle.law_crashes.proofs.laws.crashes_execute_once.Given.Over) (c : goal.After-worlds_keep_what_holds g) where
  growing : Growing g.row.D.Denot g.row.V.Denot
  growing = record {
    words = c.worlds_only_grow.ensures.words;
    words_attached = c.worlds_only_grow.ensures.words_attached;
    words_step = c.worlds_keep_what_holds.ensures.words;
    served = c.starts_are_served.ensures.event;
    served_attached = c.starts_are_served.ensures.attach;
    served_step = c.worlds_keep_what_holds.ensures.served;
  }

  known : (lock : Lock) (ring : List RingKey) → OpensWhatItSealed lock → KeepsSizes lock → Known g.row.D.Denot g.row.V.Denot lock ring
  known lock ring seals sizes = record {
    event = λ setting world event so sound bytes chance fresh k.
        c.worlds_keep_what_holds.ensures.event lock ring setting world event seals sizes so sound bytes chance fresh k;
    attach = λ setting world name so sound fresh k. c.worlds_keep_what_holds.ensures.attach lock ring setting world name seals sizes so sound fresh k;
    step = λ setting joint step so sound of chance fresh k. c.worlds_keep_what_holds.ensures.step lock ring setting joint step seals sizes so sound of chance fresh k;
    steady = λ setting world event so sound bytes s. c.packets_of_worlds_are_lawful.ensures.event lock ring setting world event sizes so sound bytes s;
    moves = λ setting w world event so fits h sealed chance fresh behind.
        c.worlds_are_moves.ensures.event lock ring setting w world event seals so fits h sealed chance fresh behind;
    order = λ setting world event so moves sealed chance kept. c.worlds_keep_order.ensures.event lock ring setting world event seals so moves sealed chance kept;
  }

  kept : (lock : Lock) (ring : List RingKey) (setting : Setting g.row.D.Denot g.row.V.Denot) (place_of : g.row.D.Denot → ℕ) (draw : g.row.D.Denot) (steps : List (Step g.row.D.Denot))
      → OpensWhatItSealed lock → KeepsSizes lock → IsSealed lock ring setting → IsSound ring setting → AreOf ring setting place_of (created setting draw) steps
      → NoChance setting place_of (created setting draw) steps → Fresh (living_of setting place_of draw steps).joint.world
      → Holds growing setting place_of lock ring (living_of setting place_of draw steps)
  kept lock ring setting place_of draw steps seals sizes so sound of chance fresh =
      kept_from growing setting place_of lock ring (known lock ring seals sizes) so sound (created setting draw) steps of chance fresh
      (record { world = c.worlds_keep_what_holds.ensures.begins lock ring setting draw; early = omega arith })

pub returns-clause-moves : goal.returns-clause-moves
returns-clause-moves g c = λ lock ring setting place_of draw steps seals sizes so sound of chance fresh.
    (kept g c lock ring setting place_of draw steps seals sizes so sound of chance fresh).world.moves

pub returns-clause-once : goal.returns-clause-once
returns-clause-once g c = λ lock ring setting place_of draw steps seals sizes so sound of chance fresh.
    let k = (kept g c lock ring setting place_of draw steps seals sizes so sound of chance fresh).world in
    c.calls_execute_once.ensures.standing setting k.moves.0 _ k.moves.1 k.served.past

pub returns-clause-in_order : goal.returns-clause-in_order
returns-clause-in_order g c = λ lock ring setting place_of draw steps seals sizes so sound of chance fresh.
    (kept g c lock ring setting place_of draw steps seals sizes so sound of chance fresh).world.in_order
