-- What contracts see of a row: a call's body, the call after which it is to execute, what became of it with what is
-- kept of its living name, and what is still to be done about it.
use Rattle.std.specs.Prelude.{ℕ, Option, List}
use Rattle.call_table.specs.declared.call.CallNo.{CallNo}
use Rattle.call_table.specs.declared.call.Flags.{Flags}
use Rattle.call_table.specs.declared.row.Progress.{Progress}

pub record RowTold : Type 0 where
  pub body : List ℕ
  pub after : Option CallNo
  pub progress : Progress
  pub flags : Flags
