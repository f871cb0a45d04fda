use Rattle.std.proofs.Common.{◌≡◌, ◌-◌, ◌<◌, subst, eqb, get_or, arith}
use Rattle.std.specs.List.{position_or_len}
use Rattle.std.proofs.lemmas.Bool.{eqb-true}
use Rattle.outbox.specs.declared.kept.Kept.{Kept}
use Rattle.outbox.specs.declared.rows.Answered.{Answered}
use Rattle.outbox.proofs.OrderLemmas.{call_is_new, all_below}
use Rattle.outbox.proofs.rows.goes_on.Goals as goal

pub returns-then-index-one : goal.returns-then-index-one
returns-then-index-one c same =
    let replies = c.args.replies.now in
    let calls = c.args.calls.now in
    let one = c.args.one in
    let at : c.find_key.result ≡ position_or_len (λ (entry : Answered). eqb entry.call one.call) calls.items = c.find_key.ensures in
    let none : c.find_key.result ≡ c.len.result = eqb-true _ _ same in
    let last : (get_or replies.items (c.len-count.result - 1) c.index.result.now).number < one.number = subst (λ (kept : Kept). kept.number < one.number) c.index.ensures c.if-index-one.true in
    record {
      order = c.requires;
      above = all_below one.number replies.items (c.len-count.result - 1) c.index.result.now c.requires.numbers (omega (arith, c.if-count-eq0.false, c.len-count.ensures, replies.ok.0)) last;
      new = call_is_new one.call calls.items replies.items c.requires (omega (arith, at, none, c.len.ensures, calls.ok.0));
    }
