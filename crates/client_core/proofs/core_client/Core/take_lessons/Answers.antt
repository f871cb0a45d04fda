use Rattle.client_core.proofs.TakingLemmas.{ends}
use Rattle.client_core.proofs.core_client.Core.take_lessons.Goals as goal

pub returns-then-take_lesson-clause-stands : goal.returns-then-take_lesson-clause-stands
returns-then-take_lesson-clause-stands c client stands =
    ends c.args.outer c.args.self.now c.loop-lesson.self c.take_lesson.new.self c.args.lessons.items _ _ (rw c.in-Some.ensures.steps.0 at c.loop-lesson.invariant.2)
    (λ one was. rw c.if-take_lesson.true at (c.take_lesson.ensures.stands one was)) client stands
