use Rattle.std.proofs.Common.{◌≡◌, sym, ap, arith, eqb, get_or, remove, length, ◌<◌}
use Rattle.std.specs.List.{position_or_len}
use Rattle.outbox.specs.declared.rows.Answered.{Answered}
use Rattle.outbox.specs.Places.{AreInOrder}
use Rattle.outbox.proofs.OrderLemmas.{reply_call, in_index, in_order_removed}
use Rattle.outbox.proofs.rows.take_out.Goals as goal

pub returns-then-in_order-clause-index : goal.returns-then-in_order-clause-index
returns-then-in_order-clause-index c =
    let replies = c.args.replies.now in
    let calls = c.args.calls.now in
    let kept = c.take_reply-kept.result in
    let order : AreInOrder calls.items replies.items = rw c.if-in_order.true at c.requires.index in
    let same : (get_or replies.items c.args.place kept).call ≡ kept.call = ap reply_call (sym c.take_reply-kept.ensures.taken) in
    let one : Answered = record { call = kept.call; number = kept.number } in
    let index : position_or_len (λ (one : Answered). eqb one.call kept.call) calls.items < length calls.items = in_index calls.items replies.items c.args.place kept kept.call order c.requires.within same in
    let at : c.find_key-place.result ≡ position_or_len (λ (one : Answered). eqb one.call kept.call) calls.items = c.find_key-place.ensures in
    let there = c.remove.ensures.succeeds one (omega (arith, index, at, calls.ok.0)) in
    let left : c.remove.new.self.items ≡ remove calls.items c.find_key-place.result = rw there at c.remove.ensures.items in
    let done : AreInOrder (remove calls.items (position_or_len (λ (one : Answered). eqb one.call kept.call) calls.items)) (remove replies.items c.args.place) = in_order_removed calls.items replies.items c.args.place kept one kept.call order c.requires.within same in
    rw (c.if-in_order.true, left, c.take_reply-kept.ensures.left, at) done
