-- What the commands promise.
use Rattle.std.specs.Prelude.{◌≡◌, ◌⊎◌, ℕ, Bool, List}
use Rattle.sched_text.specs.declared.schedule.Placed.{Placed}
use Rattle.statuses.specs.Outside.{HadFault, IfTold, IsReadToTheEnd, IsUntouched, Outside, PlainRun, Writes, WritesFront}
use Rattle.statuses.specs.Statuses.{UnlessFault}
use Rattle.statuses.specs.declared.status.Status.{Status}
use Rattle.statuses.specs.declared.status.Status.TheVariants as status
use Rattle.cmd_sim.specs.Load.{LoadExecutesOnce, summary_of}
use Rattle.cmd_sim.specs.Sim.{ExecutesOnce, IsDue, IsLawful, IsOfSim, IsRefused, RunsOut, report_of}

-- ---- `sim`, with `--wire` or without it

pub record SimRun {S O : Type 0} (wire : Bool) (input : Outside S) (out : Outside O) (one : Status) : Type 0 where
  -- it ends by one of these
  pub ends : IsOfSim one ⊎ (one ≡ status.ReadFault) ⊎ (one ≡ status.WriteFault) ⊎ (one ≡ status.Memory)
  -- Done: the input was read to its end and spells a lawful schedule, and the report of its world is written. Of that world
  -- `ExecutesOnce` holds.
  pub read : one ≡ status.Done → IsReadToTheEnd input
  pub reported : one ≡ status.Done → IfTold input (λ text. (events : List Placed) × IsLawful text events × Writes out (report_of wire events) × ExecutesOnce events)
  -- Nothing but a fault, or want of memory, keeps a lawful schedule from its report.
  pub completeness : IfTold input (λ text. (events : List Placed) → IsLawful text events → UnlessFault one status.Done)
  -- The input is refused exactly where it is no lawful schedule for another cause than spent numbers, and what is written
  -- says why.
  pub refused : one ≡ status.InputRefused → IfTold input (λ text. (due : List ℕ) × IsRefused text due × Writes out due)
  pub refusals : IfTold input (λ text. (due : List ℕ) → IsRefused text due → UnlessFault one status.InputRefused)
  -- Numbers are spent exactly where the first event that is refused is so for that, and what is written says where.
  pub spent : one ≡ status.NumbersSpent → IfTold input (λ text. (due : List ℕ) × RunsOut text due × Writes out due)
  pub spending : IfTold input (λ text. (due : List ℕ) → RunsOut text due → UnlessFault one status.NumbersSpent)
  -- Faults of the outside come only where they were counted. Where a write failed, a front of what was due is written, and
  -- nothing where a read failed or memory ran out.
  pub read_fault : one ≡ status.ReadFault → HadFault input
  pub write_fault : one ≡ status.WriteFault → HadFault out
  pub front : one ≡ status.WriteFault → (due : List ℕ) × IfTold input (λ text. IsDue wire text due) × WritesFront out due
  pub nothing : (one ≡ status.ReadFault) ⊎ (one ≡ status.Memory) → IsUntouched out

-- ---- `load`

pub record LoadRun {O : Type 0} (calls : ℕ) (out : Outside O) (one : Status) : Type 0 where
  -- It writes the line that sums up the world after the large schedule of so many calls, unless a write failed or memory ran
  -- out.
  pub written : PlainRun out status.Done (summary_of calls) one
  -- Done: of that world `ExecutesOnce` holds.
  pub once : one ≡ status.Done → LoadExecutesOnce calls
