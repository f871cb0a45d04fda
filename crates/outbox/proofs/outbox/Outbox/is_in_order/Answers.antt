use Rattle.std.proofs.Common.{◌≡◌, true, subst}
use Rattle.outbox.specs.declared.kept.Kept.{Kept}
use Rattle.outbox.specs.Replies.{AreApart, Contents}
use Rattle.outbox.specs.Places.{AreInOrder}
use Rattle.outbox.proofs.RemoveLemmas.{once_rising}
use Rattle.outbox.proofs.outbox.Outbox.is_in_order.Goals as goal

pub returns : goal.returns
returns c = λ is.
    let calls = c.self.inside.calls in
    let replies = c.self.inside.replies in
    let order : AreInOrder calls.items replies.items = rw is at c.self.invariant.0.index in
    subst (λ (contents : Contents). AreApart contents.replies) c.self.view_is
    (record { calls = order.once; numbers = once_rising (λ (kept : Kept). kept.number) replies.items order.numbers })
