-- All steps of a joint run keep what each keeps.
use Rattle.std.proofs.Common.{List, [], ◌∷◌}
use Rattle.auth_keys.specs.declared.ring.RingKey.{RingKey}
use Rattle.envelope.specs.Packet.{Lock}
use Rattle.world_rules.specs.Setting.{Setting}
use Rattle.world_rules.specs.Premises.{Fresh}
use Rattle.law_once.specs.Served.{IsServed}
use Rattle.law_connections.specs.Joint.{Joint, Step, joint_from, steps_on}
use Rattle.law_connections.specs.Keeping.{Keeps}
use Rattle.law_connections.specs.Premises.{AreOf, IsStepByNoChance, IsStepOf, NoChance}

-- what is known of each step
pub record OfSteps {S V : Type 0} (lock : Lock) (ring : List RingKey) (setting : Setting S V) : Type 0 where
  pub kept : (joint : Joint S V) (step : Step S) → IsStepOf ring joint step → IsStepByNoChance setting joint step → Fresh (steps_on setting joint step).world
      → Keeps lock ring setting joint.world → Keeps lock ring setting (steps_on setting joint step).world
  pub served : (joint : Joint S V) (step : Step S) → IsServed setting joint.world → IsServed setting (steps_on setting joint step).world
  pub words : (joint : Joint S V) (step : Step S) → IsServed setting joint.world → Fresh (steps_on setting joint step).world → Fresh joint.world

module _ {S V : Type 0} (lock : Lock) (ring : List RingKey) (setting : Setting S V) (known : OfSteps lock ring setting) where
  fresh_from : (joint : Joint S V) (steps : List (Step S)) → IsServed setting joint.world → Fresh (joint_from setting joint steps).world → Fresh joint.world
  fresh_from joint [] h fresh = fresh
  fresh_from joint (step ∷ steps) h fresh =
      known.words joint step h (fresh_from (steps_on setting joint step) steps (known.served joint step h) fresh)

  pub kept_from : (joint : Joint S V) (steps : List (Step S)) → AreOf ring setting joint steps → NoChance setting joint steps → Fresh (joint_from setting joint steps).world
      → Keeps lock ring setting joint.world → Keeps lock ring setting (joint_from setting joint steps).world
  kept_from joint [] of chance fresh k = k
  kept_from joint (step ∷ steps) of chance fresh k =
      let later = steps_on setting joint step in
      kept_from later steps of.1 chance.1 fresh
      (known.kept joint step of.0 chance.0 (fresh_from later steps (known.served joint step k.served) fresh) k)
