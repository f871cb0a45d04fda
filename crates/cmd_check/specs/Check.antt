-- What `check` owes to the bytes of its input.
use Rattle.std.specs.Prelude.{◌≡◌, ◌≤◌, ◌⊎◌, ℕ, codes, decimal, List, ◌++◌, length}
use Rattle.statuses.specs.Lines.{IsTooLong, bad_line, input_bytes_max}
use Rattle.statuses.specs.declared.status.Status.{Status}
use Rattle.statuses.specs.declared.status.Status.TheVariants as status
use Rattle.trace_check.specs.Answers.{AllHoldIn, HasBadLine, IsBrokenIn}

-- ---- what is written

abbrev pub yes_line : List ℕ
yes_line = codes "yes\n"

abbrev pub broken_line : ℕ → ℕ → List ℕ
broken_line clause line = codes "broken " ++ decimal clause ++ codes " at line " ++ decimal line ++ codes "\n"

-- ---- a trace

-- a text that isn't too long is a trace, and all six sentences hold of it: over all names of a call there is at most one
-- entry; each entry was asked for; a call that is done has one entry, with its reply; no replaced name has one, nor a call that
-- has not run; where it isn't known what became of a call the cause that is told holds; and what ran has the replies of the
-- register service
pub record ExecutesOnce (text : List ℕ) : Type 0 where
  pub short : length text ≤ input_bytes_max
  pub all_hold : AllHoldIn text

-- it is a trace, the sentence of this number is the first that doesn't hold, and this line is the first that shows it
pub record BreaksAt (text : List ℕ) (clause line : ℕ) : Type 0 where
  pub short : length text ≤ input_bytes_max
  pub broken : IsBrokenIn text clause line

-- ---- any other text

-- the first line that says no fact, or one that may not stand there
pub record HasBadLineAt (text : List ℕ) (line : ℕ) (due : List ℕ) : Type 0 where
  pub short : length text ≤ input_bytes_max
  pub bad : HasBadLine text line
  pub told : due ≡ bad_line line

-- the text is no trace, and this says why
abbrev pub IsRefused : List ℕ → List ℕ → Type 0
IsRefused text due = IsTooLong text due ⊎ ((line : ℕ) × HasBadLineAt text line due)

-- ---- the text that is due

-- this status and this text are due to the input
abbrev pub Owes : List ℕ → Status → List ℕ → Type 0
Owes text one due =
    ((one ≡ status.Done) × ExecutesOnce text × (due ≡ yes_line))
    ⊎ ((one ≡ status.Broken) × ((clause line : ℕ) × BreaksAt text clause line × (due ≡ broken_line clause line)))
    ⊎ ((one ≡ status.InputRefused) × IsRefused text due)

-- this text is due to it, with some status
abbrev pub IsDue : List ℕ → List ℕ → Type 0
IsDue text due = (one : Status) × Owes text one due

-- a status with which an answer of `check` comes
abbrev pub IsOfCheck : Status → Type 0
IsOfCheck one = (one ≡ status.Done) ⊎ (one ≡ status.Broken) ⊎ (one ≡ status.InputRefused)
