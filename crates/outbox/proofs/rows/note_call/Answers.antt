use Rattle.std.proofs.Common.{refl}
use Rattle.outbox.specs.declared.rows.Answered.{Answered}
use Rattle.outbox.specs.Replies.{with_kept}
use Rattle.outbox.specs.Places.{AreInOrder, GoesOn, inserted}
use Rattle.outbox.proofs.OrderLemmas.{answered_call, in_order_kept}
use Rattle.outbox.proofs.rows.note_call.Goals as goal

pub returns-then-goes_on-clause-index : goal.returns-then-goes_on-clause-index
returns-then-goes_on-clause-index c =
    let kept = c.args.kept.now in
    let calls = c.args.calls.now.items in
    let replies = c.args.replies.now.items in
    let one : Answered = record { call = kept.call; number = kept.number } in
    let on : GoesOn one calls replies = c.if-goes_on.ensures refl in
    let done : AreInOrder (inserted answered_call one calls) (with_kept kept replies) = in_order_kept one calls kept replies on refl refl in
    rw c.put.ensures.put done
