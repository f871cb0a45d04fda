use Rattle.std.specs.Vec.Iter.{into_iter_items}
use Rattle.client_core.proofs.TakingLemmas.{IsUnderWay}
use Rattle.client_core.proofs.core_client.Core.take_lessons.Given as goal

-- what is left leads to what all lead to
abbrev pub invariant-loop-lesson : goal.invariant-loop-lesson
invariant-loop-lesson l =
    (goal.iterator-loop-lesson).can_next l.lesson-iterator ×
    (goal.iterator-loop-lesson).is_finite l.lesson-iterator ×
    IsUnderWay l.outer l.initial.self l.self l.fn.lessons.items (into_iter_items l.lesson-iterator)
