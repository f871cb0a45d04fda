use Rattle.std.proofs.Common.{◌≡◌, ◌++◌, ◌∙◌, List, length, length-append, map, sym, ap, append_assoc, arith}
use Rattle.std.proofs.lemmas.List.{append-nil, length-map}
use Rattle.service_tl.specs.declared.lists.Message.{Message}
use Rattle.client_core.specs.Brought.{IsFit, lesson_of}
use Rattle.client_core.specs.declared.brought.Incoming.{Incoming}
use Rattle.client_core.proofs.BroughtLemmas.{all_more}
use Rattle.client_core.proofs.brought.read_parts.Goals as goal

pub loop-part-preserved : goal.loop-part-preserved
loop-part-preserved c = (
  rw (c.in_ok-push.ensures.items, c.in_ok-read_part.ensures.lesson, append_assoc) (rw c.in-Some.ensures.steps at c.loop-part.invariant.0),
  λ fit. rw (c.in_ok-push.ensures.items) (all_more (λ (lesson : Incoming). IsFit lesson.brought) _ _ (c.loop-part.invariant.1 fit) c.in_ok-read_part.ensures.fit),
)

pub returns-clause-lessons : goal.returns-clause-lessons
returns-clause-lessons c =
    sym (append-nil c.loop-part.lessons.items)
    ∙ (ap (λ (left : List Message). c.loop-part.lessons.items ++ map lesson_of left) (sym c.in-None.ensures.steps.0)
    ∙ (c.loop-part.invariant.0 ∙ ap (λ (before : List Incoming). before ++ map lesson_of c.args.parts) c.reserve.ensures.items))

pub returns-clause-few : goal.returns-clause-few
returns-clause-few c =
    let all : c.loop-part.lessons.items ≡ c.args.lessons.now.items ++ map lesson_of c.args.parts =
    sym (append-nil c.loop-part.lessons.items)
    ∙ (ap (λ (left : List Message). c.loop-part.lessons.items ++ map lesson_of left) (sym c.in-None.ensures.steps.0)
    ∙ (c.loop-part.invariant.0 ∙ ap (λ (before : List Incoming). before ++ map lesson_of c.args.parts) c.reserve.ensures.items)) in
    omega (arith, ap length all, length-append c.args.lessons.now.items (map lesson_of c.args.parts), length-map c.args.parts lesson_of, c.len.ensures.few, c.len.ensures.value)
