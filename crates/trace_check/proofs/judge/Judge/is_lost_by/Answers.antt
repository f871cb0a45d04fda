use Rattle.std.proofs.Common.{refl}
use Rattle.trace_check.specs.declared.book.By.TheVariants as by
use Rattle.trace_check.specs.declared.fact.Fact.TheVariants as fact
use Rattle.trace_check.proofs.Judging.{iff_by, no}
use Rattle.trace_check.proofs.Marking.{fact_marks}
use Rattle.trace_check.proofs.Tests.{lost_last}
use Rattle.trace_check.proofs.judge.Judge.is_lost_by.Goals as goal

pub returns-in-Some : goal.returns-in-Some
returns-in-Some c = iff_by c.is_cause_at.ensures (lost_last c.args.self.now.book.facts.items c.args.call c.in-Some.fact.now c.args.cause c.in-Some.ensures)

pub returns-in-None : goal.returns-in-None
returns-in-None c = no (λ has. c.in-None.ensures (has.last.place, fact_marks by.Call c.args.self.now.book.facts.items c.args.call has.last.place (fact.Name c.args.call has.name) has.last.at refl))
