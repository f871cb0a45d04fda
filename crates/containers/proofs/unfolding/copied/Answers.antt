use Rattle.std.proofs.Common.{◌++◌, ◌∙◌, List, length, sym, ap, append_assoc, length-append, arith}
use Rattle.std.proofs.lemmas.List.{append-nil}
use Rattle.service_tl.specs.declared.lists.Message.{Message}
use Rattle.containers.proofs.unfolding.copied.Goals as goal

pub loop-part-init : goal.loop-part-init
loop-part-init c = rw (c.in_ok-messages.ensures) c.into_iter-part-iterator.ensures.into_iter_gives

pub push-requires-clause-few : goal.push-requires-clause-few
push-requires-clause-few c =
    omega (arith, length-append c.loop-part.messages c.loop-part.part-iterator, ap length c.loop-part.invariant)

pub loop-part-preserved : goal.loop-part-preserved
loop-part-preserved c =
    rw (c.in_ok-push.ensures.pushed, c.in_ok-copy.ensures, append_assoc, ← c.in-Some.ensures.steps) c.loop-part.invariant

pub returns : goal.returns
returns c =
    sym (append-nil c.loop-part.messages)
    ∙ ap (λ (left : List Message). c.loop-part.messages ++ left) (sym c.in-None.ensures.steps.0)
    ∙ c.loop-part.invariant
