use Rattle.std.proofs.Common.{◌≡◌, ◌++◌}
use Rattle.containers.proofs.unfolding.copied.Given as goal

-- what was copied, and what is left, are all
abbrev pub invariant-loop-part : goal.invariant-loop-part
invariant-loop-part l = l.messages ++ l.part-iterator ≡ l.fn.parts
