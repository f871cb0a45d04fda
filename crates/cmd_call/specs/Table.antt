-- The table of a batch, and what is told of it.
use Rattle.std.specs.Prelude.{◌≡◌, ℕ, ◌+◌, Bool, true, false, codes, decimal, List, [], ◌∷◌, ◌++◌}
use Rattle.std.specs.List.{list_all}
use Rattle.call_table.specs.Table.{Call}
use Rattle.client_node.specs.declared.plan.Batch.{Batch}
use Rattle.client_node.specs.declared.plan.Batch.TheVariants as batch
use Rattle.statuses.specs.declared.status.Status.{Status}
use Rattle.statuses.specs.declared.status.Status.TheVariants as status
use Rattle.world_rules.specs.Report.{is_done, state_text}

-- the line of a call, by its number
abbrev pub table_line : ℕ → Call → List ℕ
table_line number call = codes "call " ++ decimal number ++ codes " " ++ state_text call.state ++ codes "\n"

-- the lines of calls that are numbered from this number on
abbrev pub lines_from : ℕ → List Call → List ℕ
lines_from number [] = []
lines_from number (call ∷ calls) = table_line number call ++ lines_from (number + 1) calls

-- a line for each call, in order
abbrev pub table : List Call → List ℕ
table calls = lines_from 1 calls

-- each call is done
abbrev pub are_done : List Call → Bool
are_done calls = list_all (λ call. is_done call.state) calls

-- where each call is decided
abbrev pub decided_status : Bool → Status
decided_status true = status.Done
decided_status false = status.NotAllDone

-- The status and the text that tell how a batch ended, by its calls then. Want of memory is told by neither.
abbrev pub TellsBatch : Batch → List Call → Status → List ℕ → Type 0
TellsBatch batch.Decided calls one text = (one ≡ decided_status (are_done calls)) × (text ≡ table calls)
TellsBatch batch.LinkLost calls one text = (one ≡ status.LinkLost) × (text ≡ table calls ++ codes "link lost\n")
TellsBatch batch.TurnsSpent calls one text = (one ≡ status.TurnsSpent) × (text ≡ table calls ++ codes "turns spent\n")
TellsBatch batch.Spent calls one text = (one ≡ status.NumbersSpent) × (text ≡ table calls ++ codes "numbers spent\n")
TellsBatch batch.Memory calls one text = ⊥
