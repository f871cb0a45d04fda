-- Words of private contracts, which are no promise of this crate.
use Rattle.std.specs.Prelude.{◌≡◌, ◌⊎◌, ℕ, Bool, Option, Some, None, List}
use Rattle.sched_text.specs.declared.schedule.Placed.{Placed}
use Rattle.statuses.specs.Lines.{refusal_line}
use Rattle.statuses.specs.declared.status.Status.{Status}
use Rattle.statuses.specs.declared.status.Status.TheVariants as status
use Rattle.world_rules.specs.Refusals.{Refusal}
use Rattle.world_rules.specs.Report.{refusal_text}
use Rattle.cmd_sim.specs.Sim.{ExecutesOnce, report_of, status_of}
use Rattle.cmd_sim.specs.Worlds.{sim_refused}

-- this status and text tell that a line is refused for this
abbrev pub IsRefusalOf : ℕ → Option Refusal → Status → List ℕ → Type 0
IsRefusalOf line None one due = ⊥
IsRefusalOf line (Some refusal) one due = (one ≡ status_of refusal) × (due ≡ refusal_line line (refusal_text refusal))

-- no event is refused, and this is the report
pub record PlaysOut (wire : Bool) (events : List Placed) (one : Status) (due : List ℕ) : Type 0 where
  pub done : one ≡ status.Done
  pub lawful : sim_refused events ≡ None
  pub report : due ≡ report_of wire events
  pub once : ExecutesOnce events

-- an event is refused, and this says so
pub record Refuses (events : List Placed) (one : Status) (due : List ℕ) : Type 0 where
  pub line : ℕ
  pub refusal : Refusal
  pub refused : sim_refused events ≡ Some (line, refusal)
  pub status_is : one ≡ status_of refusal
  pub told : due ≡ refusal_line line (refusal_text refusal)

-- the status and the text that are due to the events of a schedule
abbrev pub Plays : Bool → List Placed → Status → List ℕ → Type 0
Plays wire events one due = PlaysOut wire events one due ⊎ Refuses events one due
