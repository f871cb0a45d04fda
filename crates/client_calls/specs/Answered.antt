-- The answer of a call.
use Rattle.std.specs.Prelude.{ℕ, Option, Some, None, List}
use Rattle.call_table.specs.declared.call.CallNo.{CallNo}
use Rattle.call_table.specs.declared.call.Fate.TheVariants.{Done}
use Rattle.call_table.specs.Table.{Table, owner, settled, with_call}

abbrev pub table_done : Option CallNo → List ℕ → Table → Table
table_done None answer table = table
table_done (Some call) answer table = with_call call (settled (Done answer)) table

-- the call that is outstanding under this number is answered
abbrev pub table_answered : ℕ → List ℕ → Table → Table
table_answered about answer table = table_done (owner about table.calls) answer table

-- the answer comes back where there is no such call
abbrev pub given_back : Option CallNo → List ℕ → Option (List ℕ)
given_back None answer = Some answer
given_back (Some call) answer = None
