use Rattle.std.proofs.Common.{◌++◌, ◌∙◌, List, map, length, sym, ap, append_assoc, arith}
use Rattle.std.proofs.lemmas.List.{append-nil}
use Rattle.service_tl.specs.declared.lists.Message.{Message}
use Rattle.server_dispatch.specs.Action.{due_needed}
use Rattle.server_dispatch.proofs.dues.add_parts.Goals as goal

pub loop-part-preserved : goal.loop-part-preserved
loop-part-preserved c = (
  rw (c.in_ok-push.ensures.items, c.in_ok-part_due.ensures, append_assoc) (rw c.in-Some.ensures.steps at c.loop-part.invariant.0),
  (let left = ap (λ (left : List Message). length left) c.in-Some.ensures.steps in
      omega (arith, left, c.in_ok-push.ensures.len, c.loop-part.invariant.1)),
)

pub returns-clause-added : goal.returns-clause-added
returns-clause-added c =
    sym (append-nil c.loop-part.dues.items)
    ∙ ap (λ (left : List Message). c.loop-part.dues.items ++ map due_needed left) (sym c.in-None.ensures.steps.0)
    ∙ c.loop-part.invariant.0
