use Rattle.std.proofs.Common.{refl}
use Rattle.trace_check.specs.declared.book.By.TheVariants as by
use Rattle.trace_check.specs.declared.fact.Fact.TheVariants as fact
use Rattle.trace_check.proofs.Judging.{iff_by, no}
use Rattle.trace_check.proofs.Marking.{fact_marks}
use Rattle.trace_check.proofs.Tests.{waits_first}
use Rattle.trace_check.proofs.judge.Judge.waits.Goals as goal

pub returns-in-Some : goal.returns-in-Some
returns-in-Some c =
    let at = c.in-Some.ensures in
    iff_by c.is_wait.ensures (waits_first c.args.self.now.book.facts.items c.requires.lawful at.0 c.args.call c.in-Some.fact.now at.1 at.2)

pub returns-in-None : goal.returns-in-None
returns-in-None c = no (λ waits. c.in-None.ensures (waits.0, fact_marks by.State c.args.self.now.book.facts.items c.args.call waits.0 (fact.State c.args.call waits.1) waits.2 refl))
