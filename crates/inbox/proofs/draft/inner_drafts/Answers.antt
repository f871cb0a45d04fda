use Rattle.std.proofs.Common.{◌++◌, ◌∙◌, List, map, sym, ap, append_assoc}
use Rattle.std.proofs.lemmas.List.{append-nil}
use Rattle.service_tl.specs.declared.lists.Message.{Message}
use Rattle.inbox.specs.Drafts.{draft_of}
use Rattle.inbox.proofs.draft.inner_drafts.Goals as goal

pub loop-part-preserved : goal.loop-part-preserved
loop-part-preserved c =
    rw (c.in_ok-push.ensures.items, c.inner_draft.ensures, append_assoc) (rw c.in-Some.ensures.steps at c.loop-part.invariant)

pub returns : goal.returns
returns c =
    sym (append-nil c.loop-part.drafts.items)
    ∙ ap (λ (left : List Message). c.loop-part.drafts.items ++ map draft_of left) (sym c.in-None.ensures.steps.0)
    ∙ c.loop-part.invariant
