-- Words of the contracts of parts: the first three are those of public ones, the others are no promise of this crate.
use Rattle.std.specs.Prelude.{◌≡◌, ◌⊎◌, ℕ, true, Option, Some, None, Result, Ok, Err, List}
use Rattle.auth_keys.specs.declared.ring.RingKey.{RingKey}
use Rattle.call_script.specs.Scripts.{Spells}
use Rattle.call_script.specs.declared.script.ScriptCall.{ScriptCall}
use Rattle.client_core.specs.Keys.{Keys}
use Rattle.client_core.specs.declared.holder.Holder.{Holder}
use Rattle.client_node.specs.Course.{Course, is_decided}
use Rattle.client_node.specs.Trace.{ClientTrace, after_all}
use Rattle.client_node.specs.declared.plan.Batch.{Batch}
use Rattle.client_node.specs.declared.plan.Batch.TheVariants as batch
use Rattle.client_rules.specs.Asking.{Fault}
use Rattle.client_rules.specs.Client.{Client, calls_of}
use Rattle.commands.specs.declared.command.CallOptions.{CallOptions}
use Rattle.statuses.specs.Lines.{refusal_line}
use Rattle.statuses.specs.declared.status.Status.{Status}
use Rattle.statuses.specs.declared.status.Status.TheVariants as status
use Rattle.world_rules.specs.Report.{fault_text}
use Rattle.sim_text.specs.Faults.{fault_of}
use Rattle.cmd_call.specs.Keys.{keys_for}
use Rattle.cmd_call.specs.Owed.{Around, Files, HasCause, IsBefore, IsOffline, LeftBatch, LeftUnderFile, plan_of, rules_under}
use Rattle.cmd_call.specs.Table.{TellsBatch}
use Rattle.cmd_call.specs.declared.asking.Untaken.{Untaken}
use Rattle.cmd_call.specs.declared.keys.Acting.{Acting}
use Rattle.cmd_call.specs.declared.keys.Acting.TheVariants.{Perm, Temp}

-- the keys under which a client acts
abbrev pub keys_of : Acting → Keys
keys_of (Perm key) = record { key = key; bound_to = None }
keys_of (Temp key perm expires) = record { key = key; bound_to = Some (record { perm = perm; expires = expires }) }

-- a fault of a line, which wasn't for want of memory
abbrev pub IsAt : Option (ℕ × Fault) → ℕ → Option Fault → Type 0
IsAt due line None = Unit {0}
IsAt due line (Some fault) = due ≡ Some (line, fault)

-- the calls are taken, or this is the first one that isn't
abbrev pub TellsUntaken : {X : Type 0} → Option (ℕ × Fault) → Result X Untaken → Type 0
TellsUntaken due (Ok done) = due ≡ None
TellsUntaken due (Err untaken) = IsAt due untaken.line (fault_of untaken.fault)

-- this status and this text tell that a call isn't taken; for want of memory there are none
abbrev pub IsRefusalOf : ℕ → Option Fault → Status → List ℕ → Type 0
IsRefusalOf line None one due = ⊥
IsRefusalOf line (Some fault) one due = (one ≡ status.InputRefused) × (due ≡ refusal_line line (fault_text fault))

-- a batch was run from this course
pub record RanFrom {N C D : Type 0} (options : CallOptions) (ring : List RingKey) (course : Course D) (around : Around N C D) (one : Status) (due : List ℕ) : Type 0 where
  pub end : Batch
  pub kept : Holder
  pub trace : ClientTrace (rules_under ring around) (plan_of options) course end (around.calls around.net) (around.calls around.net_then) (around.given around.clock) (around.given around.clock_then) kept around.draw_then
  pub left : Client
  pub its : left ≡ (after_all (rules_under ring around) (plan_of options) course trace.attempts).client
  pub told : TellsBatch end (calls_of left) one due
  pub cause : HasCause (rules_under ring around) (plan_of options) course trace.attempts left one
  pub decided : is_decided course.client ≡ true → IsOffline around × (end ≡ batch.Decided) × (calls_of left ≡ calls_of course.client)

-- a batch was left that began as this course
pub record LeftFrom {N C D : Type 0} (options : CallOptions) (ring : List RingKey) (course : Course D) (around : Around N C D) : Type 0 where
  pub end : Batch
  pub kept : Holder
  pub trace : ClientTrace (rules_under ring around) (plan_of options) course end (around.calls around.net) (around.calls around.net_then) (around.given around.clock) (around.given around.clock_then) kept around.draw_then

-- ---- where memory runs out: no batch was begun, or one was left, by what was read

abbrev pub LeavesKeys : {N C D : Type 0} → CallOptions → List ScriptCall → List RingKey → Keys → Around N C D → Type 0
LeavesKeys options calls ring keys around = IsBefore around ⊎ LeftBatch options calls ring keys around

abbrev pub LeavesRing : {N C D : Type 0} → CallOptions → List ScriptCall → List RingKey → Around N C D → Type 0
LeavesRing options calls ring around =
    IsBefore around ⊎ ((keys : Keys) × (keys_for ring options.key options.perm ≡ Some keys) × LeftBatch options calls ring keys around)

abbrev pub LeavesScript : {F N C D : Type 0} → CallOptions → List ScriptCall → Files F → Around N C D → Type 0
LeavesScript options calls files around = IsBefore around ⊎ LeftUnderFile options calls files around

abbrev pub LeavesText : {F N C D : Type 0} → CallOptions → List ℕ → Files F → Around N C D → Type 0
LeavesText options text files around =
    IsBefore around ⊎ ((calls : List ScriptCall) × Spells text calls × LeftUnderFile options calls files around)
