-- How a run of the program ends.
use Rattle.std.specs.Prelude.{◌≡◌, ◌⊎◌, ℕ}
use Rattle.statuses.specs.declared.status.Status.{Status}
use Rattle.statuses.specs.declared.status.Status.TheVariants as status

-- the number of each status
abbrev pub number_of : Status → ℕ
number_of status.Done = 0
number_of status.WordsRefused = 1
number_of status.InputRefused = 2
number_of status.ReadFault = 3
number_of status.WriteFault = 4
number_of status.KeysRefused = 5
number_of status.NotAllDone = 6
number_of status.LinkLost = 7
number_of status.TurnsSpent = 8
number_of status.Memory = 9
number_of status.NumbersSpent = 10
number_of status.NotListening = 11
number_of status.JournalFault = 12
number_of status.Broken = 13

-- it is the number of a status of which this holds
abbrev pub EndsBy : ℕ → (Status → Type 0) → Type 0
EndsBy number P = (one : Status) × (number ≡ number_of one) × P one

-- it is this status, unless the input or the output had a fault or memory ran out
abbrev pub UnlessFault : Status → Status → Type 0
UnlessFault one due = (one ≡ due) ⊎ (one ≡ status.ReadFault) ⊎ (one ≡ status.WriteFault) ⊎ (one ≡ status.Memory)
