use Rattle.std.proofs.Common.{◌≡◌, ◌∙◌, sym, ap, eqb, arith}
use Rattle.std.specs.List.{position_or_len}
use Rattle.std.specs.Option.{option_copied}
use Rattle.outbox.specs.declared.rows.Answered.{Answered}
use Rattle.outbox.specs.Replies.{by_number}
use Rattle.outbox.specs.Places.{AreInOrder}
use Rattle.outbox.proofs.RemoveLemmas.{first_within}
use Rattle.outbox.proofs.OrderLemmas.{call_is_new, call_is_found}
use Rattle.outbox.proofs.outbox.Outbox.by_call.Goals as goal

pub returns-then-place-len : goal.returns-then-place-len
returns-then-place-len c =
    let calls = c.self.inside.calls in
    let replies = c.self.inside.replies in
    let order : AreInOrder calls.items replies.items = rw c.if-self.true at c.self.invariant.0.index in
    let at : c.find_key-place.result ≡ position_or_len (λ (one : Answered). eqb one.call c.args.call) calls.items = c.find_key-place.ensures in
    rw (← c.self.view_is) (sym (call_is_new c.args.call calls.items replies.items order (omega (arith, at, calls.ok.0, c.if-place-len.true, c.len.ensures))))

pub index-requires : goal.index-requires
index-requires c =
    let calls = c.self.inside.calls in
    let at : c.find_key-place.result ≡ position_or_len (λ (one : Answered). eqb one.call c.args.call) calls.items = c.find_key-place.ensures in
    omega (arith, at, first_within (λ (one : Answered). eqb one.call c.args.call) calls.items, calls.ok.0, c.if-place-len.false, c.len.ensures)

pub returns-then-self : goal.returns-then-self
returns-then-self c =
    let calls = c.self.inside.calls in
    let replies = c.self.inside.replies in
    let order : AreInOrder calls.items replies.items = rw c.if-self.true at c.self.invariant.0.index in
    let at : c.find_key-place.result ≡ position_or_len (λ (one : Answered). eqb one.call c.args.call) calls.items = c.find_key-place.ensures in
    let got : option_copied c.by_number.result ≡ by_number c.index.result.now.number replies.items = rw (← c.self.view_is) at c.by_number.ensures in
    let read = ap (λ (one : Answered). by_number one.number replies.items) c.index.ensures in
    rw (← c.self.view_is) (got ∙ (read ∙ call_is_found c.args.call calls.items replies.items c.find_key-place.result c.index.result.now order at (omega (arith, at, first_within (λ (one : Answered). eqb one.call c.args.call) calls.items, calls.ok.0, c.if-place-len.false, c.len.ensures))))
