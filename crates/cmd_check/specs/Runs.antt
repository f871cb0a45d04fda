-- What the command promises.
use Rattle.std.specs.Prelude.{◌≡◌, ◌⊎◌, ℕ, List}
use Rattle.statuses.specs.Outside.{HadFault, IfTold, IsReadToTheEnd, IsUntouched, Outside, Writes, WritesFront}
use Rattle.statuses.specs.Statuses.{UnlessFault}
use Rattle.statuses.specs.declared.status.Status.{Status}
use Rattle.statuses.specs.declared.status.Status.TheVariants as status
use Rattle.cmd_check.specs.Check.{BreaksAt, ExecutesOnce, IsDue, IsOfCheck, IsRefused, broken_line, yes_line}

-- ---- `check`

pub record CheckRun {S O : Type 0} (input : Outside S) (out : Outside O) (one : Status) : Type 0 where
  -- it ends by one of these
  pub ends : IsOfCheck one ⊎ (one ≡ status.ReadFault) ⊎ (one ≡ status.WriteFault) ⊎ (one ≡ status.Memory)
  -- by the first two the input was read to its end
  pub read : (one ≡ status.Done) ⊎ (one ≡ status.Broken) → IsReadToTheEnd input
  -- Done exactly where the input is a trace of which all six sentences hold, and `yes` is written
  pub holds : one ≡ status.Done → IfTold input (λ text. ExecutesOnce text × Writes out yes_line)
  pub holding : IfTold input (λ text. ExecutesOnce text → UnlessFault one status.Done)
  -- Broken exactly where it is a trace of which one doesn't hold, and what is written names the first such sentence and the
  -- first line that shows it
  pub broken : one ≡ status.Broken → IfTold input (λ text. (clause line : ℕ) × BreaksAt text clause line × Writes out (broken_line clause line))
  pub breaking : IfTold input (λ text. (clause line : ℕ) → BreaksAt text clause line → UnlessFault one status.Broken)
  -- The input is refused exactly where it is no trace, and what is written says why.
  pub refused : one ≡ status.InputRefused → IfTold input (λ text. (due : List ℕ) × IsRefused text due × Writes out due)
  pub refusals : IfTold input (λ text. (due : List ℕ) → IsRefused text due → UnlessFault one status.InputRefused)
  -- Faults of the outside come only where they were counted. Where a write failed, a front of what was due is written, and
  -- nothing where a read failed or memory ran out.
  pub read_fault : one ≡ status.ReadFault → HadFault input
  pub write_fault : one ≡ status.WriteFault → HadFault out
  pub front : one ≡ status.WriteFault → (due : List ℕ) × IfTold input (λ text. IsDue text due) × WritesFront out due
  pub nothing : (one ≡ status.ReadFault) ⊎ (one ≡ status.Memory) → IsUntouched out
