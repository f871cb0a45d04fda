use Rattle.std.proofs.Common.{◌∙◌, List, length, refl, subst, sym, ap, arith}
use Rattle.trace_check.specs.declared.fact.Fact.{Fact}
use Rattle.trace_check.specs.Books.{IsUnfit}
use Rattle.trace_check.proofs.Finding.{bad_line}
use Rattle.trace_check.proofs.checking.judged.Goals as goal

pub bounds-lines-place : goal.bounds-lines-place
bounds-lines-place c =
    let within = c.in-Some.ensures.within in
    let same = ap (λ (l : List Fact). length l) c.in_ok-book.ensures.facts in
    omega (arith, within, same, c.requires.count)

pub returns-in-Some-clause-fault : goal.returns-in-Some-clause-fault
returns-in-Some-clause-fault c =
    bad_line c.args.facts.items c.args.lines.now c.in-Some.place _ c.requires.count c.requires.rise
    (subst (λ (l : List Fact). IsUnfit l c.in-Some.place) c.in_ok-book.ensures.facts c.in-Some.ensures) refl

pub found-requires-clause-count : goal.found-requires-clause-count
found-requires-clause-count c = c.requires.count ∙ ap (λ (l : List Fact). length l) (sym c.in_ok-book.ensures.facts)
