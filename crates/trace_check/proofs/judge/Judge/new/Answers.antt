use Rattle.std.proofs.Common.{List, subst}
use Rattle.trace_check.specs.declared.fact.Fact.{Fact}
use Rattle.trace_check.specs.Books.{AreServed}
use Rattle.trace_check.proofs.judge.Judge.new.Goals as goal

pub returns-clause-judge : goal.returns-clause-judge
returns-clause-judge c = record {
  book = c.requires.book;
  lawful = c.requires.lawful;
  executed = c.in_ok-executed.ensures;
  served = subst (λ (l : List Fact). AreServed l c.in_ok-served.served.items) c.as_slice.ensures.value c.in_ok-served.ensures;
}
