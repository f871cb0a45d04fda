-- What is taken for granted of the steps of a joint run.
use Rattle.std.specs.Prelude.{◌≡◌, true, ℕ, IfSome, List, [], ◌∷◌}
use Rattle.octets.specs.Bytes.{IsBytes}
use Rattle.auth_keys.specs.declared.ring.RingKey.{RingKey}
use Rattle.sched_text.specs.declared.event.Event.TheVariants as line
use Rattle.server_node.specs.Trace.{Act, Hear}
use Rattle.client_core.specs.Keys.{Keys}
use Rattle.world_rules.specs.Setting.{Setting}
use Rattle.world_rules.specs.World.{World, counted}
use Rattle.world_rules.specs.Premises.{IsByNoChance}
use Rattle.law_packets.specs.Lawful.{is_held}
use Rattle.law_connections.specs.Joint.{Deed, Joint, Step, Begins, Does, Hears, Serves, Starts, Submits, at_client_moment, at_moment, steps_on}

-- ---- keys and bodies

-- the ring has the client's key, and the permanent one that it is to be bound to
pub record AreHeld (ring : List RingKey) (keys : Keys) : Type 0 where
  pub key : is_held ring keys.key ≡ true
  pub perm : IfSome keys.bound_to (λ one. is_held ring one.perm ≡ true)

-- the body of a call is bytes
abbrev pub IsOfBytes : Deed → Type 0
IsOfBytes (Submits body earlier) = IsBytes body
IsOfBytes _ = Unit {0}

-- keys are those of a ring, and the body of a call is bytes where its client is there
abbrev pub IsStepOf : {S V : Type 0} → List RingKey → Joint S V → Step S → Type 0
IsStepOf ring joint (Serves act) = Unit {0}
IsStepOf ring joint (Starts draw) = Unit {0}
IsStepOf ring joint (Begins keys draw) = AreHeld ring keys
IsStepOf ring joint (Does number deed) = IfSome (counted number joint.draws) (λ draw. IsOfBytes deed)

-- so it is over all steps
abbrev pub AreOf : {S V : Type 0} → List RingKey → Setting S V → Joint S V → List (Step S) → Type 0
AreOf ring setting joint [] = Unit {0}
AreOf ring setting joint (step ∷ steps) = IsStepOf ring joint step × AreOf ring setting (steps_on setting joint step) steps

-- ---- chance

-- where bytes that come to the server open there at its moment, they are those of a packet that a client made
abbrev pub IsByNoChanceUp : {S V : Type 0} → Setting S V → World S V → Act → Type 0
IsByNoChanceUp setting world (Hear now packet) = IsByNoChance setting (at_moment now world) (line.ForeignServer packet)
IsByNoChanceUp setting world _ = Unit {0}

-- where bytes that come to the client open there at its moment, they are those of a packet that the server made, in whichever start
abbrev pub IsByNoChanceDown : {S V : Type 0} → Setting S V → World S V → ℕ → Deed → Type 0
IsByNoChanceDown setting world number (Hears now packet) = IsByNoChance setting (at_client_moment setting number now world) (line.ForeignClient number packet)
IsByNoChanceDown setting world number _ = Unit {0}

abbrev pub IsStepByNoChance : {S V : Type 0} → Setting S V → Joint S V → Step S → Type 0
IsStepByNoChance setting joint (Serves act) = IsByNoChanceUp setting joint.world act
IsStepByNoChance setting joint (Does number deed) = IsByNoChanceDown setting joint.world number deed
IsStepByNoChance setting joint (Starts draw) = Unit {0}
IsStepByNoChance setting joint (Begins keys draw) = Unit {0}

-- over all steps, bytes that open at an end were sealed by the other in that direction: so the run has all that was ever done under
-- these keys, from the first step on
abbrev pub NoChance : {S V : Type 0} → Setting S V → Joint S V → List (Step S) → Type 0
NoChance setting joint [] = Unit {0}
NoChance setting joint (step ∷ steps) = IsStepByNoChance setting joint step × NoChance setting (steps_on setting joint step) steps
