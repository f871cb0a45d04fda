use Rattle.std.proofs.Common.{◌≡◌, ◌++◌, map}
use Rattle.std.specs.List.{AllByRecursion}
use Rattle.client_core.specs.Brought.{IsFit, lesson_of}
use Rattle.client_core.proofs.brought.read_parts.Given as goal

-- what was read, and what is left, are all
abbrev pub invariant-loop-part : goal.invariant-loop-part
invariant-loop-part l =
    (l.lessons.items ++ map lesson_of l.part-iterator ≡ l.initial.lessons.items ++ map lesson_of l.fn.parts)
    × (AllByRecursion (λ lesson. IsFit lesson.brought) l.initial.lessons.items → AllByRecursion (λ lesson. IsFit lesson.brought) l.lessons.items)
