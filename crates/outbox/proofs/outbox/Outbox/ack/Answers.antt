use Rattle.std.proofs.Common.{◌≡◌, ◌∙◌, sym, ap, eqb, arith, Some, get_or}
use Rattle.outbox.specs.declared.kept.Kept.{Kept}
use Rattle.outbox.specs.Replies.{Replies, by_number, call_of}
use Rattle.outbox.proofs.RemoveLemmas.{first_within, found_at, none_found}
use Rattle.outbox.proofs.OrderLemmas.{without_is, without_none}
use Rattle.outbox.proofs.outbox.Outbox.ack.Goals as goal

pub returns-then-place-len-clause-call : goal.returns-then-place-len-clause-call
returns-then-place-len-clause-call c =
    let replies = c.self.inside.replies in
    let test = λ (kept : Kept). eqb kept.number c.args.number in
    rw (← c.self.view_is) (sym (ap call_of (none_found test replies.items (omega (arith, replies.ok.0, c.place_of_number-place.ensures, c.if-place-len.true, c.len.ensures)))))

pub returns-then-place-len-clause-after : goal.returns-then-place-len-clause-after
returns-then-place-len-clause-after c =
    let replies = c.self.inside.replies in
    rw (← c.self.view_is) (ap (λ (left : Replies). record { replies = left; room = c.self.inside.reserved }) (sym (without_none c.args.number replies.items (omega (arith, replies.ok.0, c.place_of_number-place.ensures, c.if-place-len.true, c.len.ensures)))))

pub take_out-kept-requires-clause-within : goal.take_out-kept-requires-clause-within
take_out-kept-requires-clause-within c =
    let replies = c.self.inside.replies in
    omega (arith, first_within (λ (kept : Kept). eqb kept.number c.args.number) replies.items, replies.ok.0, c.place_of_number-place.ensures, c.if-place-len.false, c.len.ensures)

pub returns-clause-call : goal.returns-clause-call
returns-clause-call c =
    let replies = c.self.inside.replies in
    let kept = c.take_out-kept.result in
    let test = λ (kept : Kept). eqb kept.number c.args.number in
    let found : by_number c.args.number replies.items ≡ Some (get_or replies.items c.place_of_number-place.result kept) = found_at test replies.items c.place_of_number-place.result kept c.place_of_number-place.ensures (omega (arith, first_within (λ (kept : Kept). eqb kept.number c.args.number) replies.items, replies.ok.0, c.place_of_number-place.ensures, c.if-place-len.false, c.len.ensures)) in
    rw (← c.self.view_is) (ap (λ (kept : Kept). Some kept.call) c.take_out-kept.ensures.taken ∙ sym (ap call_of found))

pub returns-clause-after : goal.returns-clause-after
returns-clause-after c =
    let replies = c.self.inside.replies in
    let left = c.take_out-kept.ensures.left ∙ without_is c.args.number replies.items c.place_of_number-place.result c.place_of_number-place.ensures (omega (arith, first_within (λ (kept : Kept). eqb kept.number c.args.number) replies.items, replies.ok.0, c.place_of_number-place.ensures, c.if-place-len.false, c.len.ensures)) in
    rw (← c.self.view_is) (ap (λ (left : Replies). record { replies = left; room = c.self.inside.reserved }) left)
