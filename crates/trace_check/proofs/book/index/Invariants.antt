use Rattle.std.proofs.Common.{map, take}
use Rattle.trace_check.specs.Indexes.{Indexes}
use Rattle.trace_check.specs.Keys.{key_of}
use Rattle.trace_check.proofs.book.index.Given as goal

-- the table is that of the lines so far
abbrev pub invariant-loop-place : goal.invariant-loop-place
invariant-loop-place l = Indexes l.table.rows (take l.place (map (key_of l.by) l.facts))
