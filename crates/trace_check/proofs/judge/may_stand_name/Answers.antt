use Rattle.std.proofs.lemmas.Bool.{both_ways}
use Rattle.trace_check.proofs.Judging.{no, yes}
use Rattle.trace_check.proofs.Marking.{body_before, name_before}
use Rattle.trace_check.proofs.judge.may_stand_name.Goals as goal

pub returns-then-not-known : goal.returns-then-not-known
returns-then-not-known c =
    no (λ is. both_ways c.has_before-known.result c.if-not-known.true (c.has_before-known.ensures.1 ((body_before c.args.book.now.facts.items c.args.call c.args.place).1 is.known)))

pub returns-then-old : goal.returns-then-old
returns-then-old c = no (λ is. is.new ((name_before c.args.book.now.facts.items c.args.name c.args.place).0 (c.has_before-old.ensures.0 c.if-old.true)))

pub returns : goal.returns
returns c = yes (record {
  known = (body_before c.args.book.now.facts.items c.args.call c.args.place).0 (c.has_before-known.ensures.0 c.if-not-known.false);
  new = λ before. both_ways c.has_before-old.result c.if-old.false (c.has_before-old.ensures.1 ((name_before c.args.book.now.facts.items c.args.name c.args.place).1 before));
})
