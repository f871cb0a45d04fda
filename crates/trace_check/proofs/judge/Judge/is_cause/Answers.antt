use Rattle.std.proofs.Common.{IsTrue, ◌↔◌, subst, sym}
use Rattle.trace_check.specs.declared.book.By.TheVariants as by
use Rattle.trace_check.specs.declared.fact.Cause.{Cause}
use Rattle.trace_check.specs.declared.numbered.Numbered.{Numbered}
use Rattle.trace_check.specs.Keys.{IsMarked, IsMarkedTwice}
use Rattle.trace_check.specs.Sentences.{IsCause}
use Rattle.trace_check.proofs.Judging.{iff_by}
use Rattle.trace_check.proofs.Marking.{closed_said, gone_said, left_said, made_twice}
use Rattle.trace_check.proofs.judge.Judge.is_cause.Goals as goal

pub returns-in-Session : goal.returns-in-Session
returns-in-Session c =
    let facts = c.args.self.now.book.facts.items in
    subst (λ (k : Cause). IsTrue c.has_two.result ↔ IsCause facts c.args.name k) (sym c.in-Session.is)
    (iff_by (subst (λ (k : Numbered). IsTrue c.has_two.result ↔ IsMarkedTwice by.Made facts k) c.whole.ensures c.has_two.ensures) (made_twice facts c.args.name.owner))

pub returns-in-Renewed : goal.returns-in-Renewed
returns-in-Renewed c =
    let facts = c.args.self.now.book.facts.items in
    subst (λ (k : Cause). IsTrue c.has.result ↔ IsCause facts c.args.name k) (sym c.in-Renewed.is)
    (iff_by (subst (λ (k : Numbered). IsTrue c.has.result ↔ IsMarked by.Left facts k) c.whole-in-Renewed.ensures c.has.ensures) (left_said facts c.args.name.owner))

pub returns-in-Ended : goal.returns-in-Ended
returns-in-Ended c =
    let facts = c.args.self.now.book.facts.items in
    subst (λ (k : Cause). IsTrue c.has-in-Ended.result ↔ IsCause facts c.args.name k) (sym c.in-Ended.is)
    (iff_by (subst (λ (k : Numbered). IsTrue c.has-in-Ended.result ↔ IsMarked by.Closed facts k) c.whole-in-Ended.ensures c.has-in-Ended.ensures) (closed_said facts c.args.name.owner))

pub returns-in-Forgotten : goal.returns-in-Forgotten
returns-in-Forgotten c =
    let facts = c.args.self.now.book.facts.items in
    subst (λ (k : Cause). IsTrue c.has-in-Forgotten.result ↔ IsCause facts c.args.name k) (sym c.in-Forgotten.is)
    (iff_by c.has-in-Forgotten.ensures (gone_said facts c.args.name))
