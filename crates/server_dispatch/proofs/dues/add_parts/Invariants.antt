use Rattle.std.proofs.Common.{◌≡◌, ◌+◌, ◌++◌, length, map, vec_len}
use Rattle.server_dispatch.specs.Action.{due_needed}
use Rattle.server_dispatch.proofs.dues.add_parts.Given as goal

-- what was read, and what is left, are all
abbrev pub invariant-loop-part : goal.invariant-loop-part
invariant-loop-part l =
    (l.dues.items ++ map due_needed l.part-iterator ≡ l.fn.dues.items ++ map due_needed l.fn.parts)
    × (vec_len l.dues + length l.part-iterator ≡ vec_len l.fn.dues + length l.fn.parts)
