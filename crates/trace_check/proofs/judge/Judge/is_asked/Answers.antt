use Rattle.std.proofs.Common.{IsTrue, ◌↔◌, List, ℕ, subst}
use Rattle.trace_check.specs.Books.{HasBody}
use Rattle.trace_check.proofs.Judging.{asked_call, iff_by, no}
use Rattle.trace_check.proofs.judge.Judge.is_asked.Goals as goal

pub returns-in-Some : goal.returns-in-Some
returns-in-Some c =
    let body : IsTrue c.has_body.result ↔ HasBody c.args.self.now.book.facts.items c.in-Some.call c.args.entry.now.request =
    subst (λ (r : List ℕ). IsTrue c.has_body.result ↔ HasBody c.args.self.now.book.facts.items c.in-Some.call r) c.as_slice.ensures.value c.has_body.ensures in
    iff_by body (asked_call c.args.self.now.book.facts.items c.requires.lawful c.in-Some.call c.args.entry.now c.in-Some.ensures)

pub returns-in-None : goal.returns-in-None
returns-in-None c = no (λ was. c.in-None.ensures was.call was.named)
