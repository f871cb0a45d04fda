use Rattle.std.proofs.Common.{List}
use Rattle.auth_keys.specs.declared.ring.RingKey.{RingKey}
use Rattle.envelope.specs.Lawful.{OpensWhatItSealed}
use Rattle.envelope.specs.Packet.{Lock}
use Rattle.world_rules.specs.Setting.{Setting}
use Rattle.world_rules.specs.Premises.{Fresh, IsSealed, IsSound}
use Rattle.envelope.specs.Sizes.{KeepsSizes}
use Rattle.law_connections.specs.Joint.{Step, joint_of, nobody_yet}
use Rattle.law_connections.specs.Keeping.{Keeps}
use Rattle.law_connections.specs.Premises.{AreOf, NoChance}
use Rattle.law_connections.proofs.Runs.{OfSteps, kept_from}
use Rattle.law_connections.proofs.laws.connections_execute_once.Goals as goal

module _ (g : Rattle.law_connections.proofs.laws.connections_execute_once.Given.Over) (c : goal.After-worlds_keep_what_holds g) where
  kept : (lock : Lock) (ring : List RingKey) (setting : Setting g.row.D.Denot g.row.V.Denot) (draw : g.row.D.Denot) (steps : List (Step g.row.D.Denot))
      → OpensWhatItSealed lock → KeepsSizes lock → IsSealed lock ring setting → IsSound ring setting → AreOf ring setting (nobody_yet setting draw) steps
      → NoChance setting (nobody_yet setting draw) steps → Fresh (joint_of setting draw steps).world → Keeps lock ring setting (joint_of setting draw steps).world
  kept lock ring setting draw steps seals sizes so sound of chance fresh =
      let known : OfSteps lock ring setting = record {
        kept = λ joint step of chance fresh k. c.worlds_keep_what_holds.ensures.step lock ring setting joint step seals sizes so sound of chance fresh k;
        served = c.worlds_keep_what_holds.ensures.served setting;
        words = c.worlds_keep_what_holds.ensures.words setting;
      } in
      kept_from lock ring setting known (nobody_yet setting draw) steps of chance fresh (c.worlds_keep_what_holds.ensures.begins lock ring setting draw)

pub returns-clause-moves : goal.returns-clause-moves
returns-clause-moves g c = λ lock ring setting draw steps seals sizes so sound of chance fresh.
    (kept g c lock ring setting draw steps seals sizes so sound of chance fresh).moves

pub returns-clause-once : goal.returns-clause-once
returns-clause-once g c = λ lock ring setting draw steps seals sizes so sound of chance fresh.
    let k = kept g c lock ring setting draw steps seals sizes so sound of chance fresh in
    c.calls_execute_once.ensures.standing setting k.moves.0 _ k.moves.1 k.served.past

pub returns-clause-in_order : goal.returns-clause-in_order
returns-clause-in_order g c = λ lock ring setting draw steps seals sizes so sound of chance fresh.
    (kept g c lock ring setting draw steps seals sizes so sound of chance fresh).in_order
