use Rattle.std.proofs.lemmas.Bool.{both_ways}
use Rattle.trace_check.proofs.Judging.{no}
use Rattle.trace_check.proofs.Marking.{body_before, state_told}
use Rattle.trace_check.proofs.judge.may_stand_body.Goals as goal

pub returns-then-not-is_next : goal.returns-then-not-is_next
returns-then-not-is_next c = no (λ is. both_ways c.is_next.result c.if-not-is_next.true (c.is_next.ensures.1 is.next))

pub returns-then-has_before : goal.returns-then-has_before
returns-then-has_before c = no (λ is. is.new ((body_before c.args.book.now.facts.items c.args.call c.args.place).0 (c.has_before.ensures.0 c.if-has_before.true)))

pub returns : goal.returns
returns c = (
  λ e. record {
    next = c.is_next.ensures.0 c.if-not-is_next.false;
    new = λ before. both_ways c.has_before.result c.if-has_before.false (c.has_before.ensures.1 ((body_before c.args.book.now.facts.items c.args.call c.args.place).1 before));
    told = (state_told c.args.book.now.facts.items c.args.call).0 (c.has.ensures.0 e);
  },
  λ is. c.has.ensures.1 ((state_told c.args.book.now.facts.items c.args.call).1 is.told),
)
