-- One event, by what `step` makes of it.
use Rattle.std.proofs.Common.{◌≡◌, None, Result, Ok, Err, ap, subst, sym}
use Rattle.std.specs.Prelude.{OnOk, Option, if◌then◌else◌, is_some}
use Rattle.sched_text.specs.declared.event.Event.{Event}
use Rattle.world_rules.specs.Refusals.{Refusal, refusal}
use Rattle.world_rules.specs.Run as run
use Rattle.world_rules.specs.Setting.{Setting}
use Rattle.world_rules.specs.World.{World as Rules}
use Rattle.sim_world.specs.Told.{Steps}
use Rattle.sim_world.specs.Worlds.{Stands, World}
use Rattle.sim_world.specs.declared.fault.StepFault.{StepFault}

pub step_is_after : {D V : Type 0} (setting : Setting D V) (world : Rules D V) (event : Event) → refusal setting world event ≡ None
    → run.step setting world event ≡ run.after setting world event
step_is_after setting world event free = ap (λ (due : Option Refusal). if is_some due then world else run.after setting world event) free

-- where it isn't refused, what it leaves is the step
pub steps_stand : {S V D X : Type 0} (setting : Setting D V) (world : Rules D V) (event : Event) (result : Result X StepFault) (after : World S V D)
    → Steps setting world event result after → OnOk result (Stands setting after (run.step setting world event))
steps_stand setting world event (Ok done) after steps =
    subst (λ stepped. Stands setting after stepped) (sym (step_is_after setting world event steps.refused)) steps.done
steps_stand setting world event (Err fault) after steps = tt
