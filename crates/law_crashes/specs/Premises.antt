-- What is taken for granted of a schedule with crashes.
use Rattle.std.specs.Prelude.{ℕ, Some, None, List, [], ◌∷◌}
use Rattle.auth_keys.specs.declared.ring.RingKey.{RingKey}
use Rattle.sched_text.specs.declared.event.Event.TheVariants as line
use Rattle.world_rules.specs.Setting.{Setting}
use Rattle.world_rules.specs.World.{World}
use Rattle.world_rules.specs.Premises.{IsByNoChance}
use Rattle.law_connections.specs.Joint.{at_moment}
use Rattle.law_connections.specs.Joint as joint
use Rattle.law_connections.specs.Premises.{IsStepByNoChance, IsStepOf}
use Rattle.law_crashes.specs.Records.{Call, Hear}
use Rattle.law_crashes.specs.Crashes.{Answers, Begins, Crashes, Does, Living, Spares, Step, goes_on}

-- ---- keys and bodies

-- keys are those of a ring, and the body of a call is bytes where its client is there
abbrev pub IsLivingStepOf : {S V : Type 0} → List RingKey → Living S V → Step S → Type 0
IsLivingStepOf ring living (Begins keys draw) = IsStepOf ring living.joint (joint.Begins keys draw)
IsLivingStepOf ring living (Does number deed) = IsStepOf ring living.joint (joint.Does number deed)
IsLivingStepOf ring living _ = Unit {0}

-- so it is over all steps
abbrev pub AreOf : {S V : Type 0} → List RingKey → Setting S V → (S → ℕ) → Living S V → List (Step S) → Type 0
AreOf ring setting place_of living [] = Unit {0}
AreOf ring setting place_of living (step ∷ steps) =
    IsLivingStepOf ring living step × AreOf ring setting place_of (goes_on setting place_of living step) steps

-- ---- chance

-- where bytes that come to the server open there at its moment, they are those of a packet that a client made
abbrev pub IsCallByNoChance : {S V : Type 0} → Setting S V → World S V → Call → Type 0
IsCallByNoChance setting world (Hear now packet) = IsByNoChance setting (at_moment now world) (line.ForeignServer packet)
IsCallByNoChance setting world _ = Unit {0}

-- also in a call that a crash cuts off; and where they come to a client, of one that the server made, in whichever life
abbrev pub IsLivingStepByNoChance : {S V : Type 0} → Setting S V → Living S V → Step S → Type 0
IsLivingStepByNoChance setting living (Begins keys draw) = Unit {0}
IsLivingStepByNoChance setting living (Does number deed) = IsStepByNoChance setting living.joint (joint.Does number deed)
IsLivingStepByNoChance setting living (Answers call) = IsCallByNoChance setting living.joint.world call
IsLivingStepByNoChance setting living (Spares now place) = Unit {0}
IsLivingStepByNoChance setting living (Crashes None left now) = Unit {0}
IsLivingStepByNoChance setting living (Crashes (Some call) left now) = IsCallByNoChance setting living.joint.world call

-- over all steps, bytes that open at an end were sealed by the other in that direction
abbrev pub NoChance : {S V : Type 0} → Setting S V → (S → ℕ) → Living S V → List (Step S) → Type 0
NoChance setting place_of living [] = Unit {0}
NoChance setting place_of living (step ∷ steps) =
    IsLivingStepByNoChance setting living step × NoChance setting place_of (goes_on setting place_of living step) steps
