use Rattle.std.proofs.Common.{List, length, refl, subst, ap, arith}
use Rattle.trace_check.specs.declared.fact.Fact.{Fact}
use Rattle.trace_check.specs.Sentences.{Keeps}
use Rattle.trace_check.specs.Books.{IsBreak}
use Rattle.trace_check.proofs.Finding.{all_hold, broken}
use Rattle.trace_check.proofs.checking.found.Goals as goal

pub bounds-lines-place : goal.bounds-lines-place
bounds-lines-place c =
    let within = c.in-Some.ensures.is.within in
    let same = ap (λ (l : List Fact). length l) c.in_ok-judge.ensures.facts in
    omega (arith, within, same, c.requires.count)

pub returns-in-Some : goal.returns-in-Some
returns-in-Some c =
    broken c.args.book.facts.items c.args.lines.now c.in-Some.sentence c.in-Some.place c.number.result _ c.requires.count c.requires.rise
    (subst (λ (l : List Fact). IsBreak l 1 c.in-Some.sentence c.in-Some.place) c.in_ok-judge.ensures.facts c.in-Some.ensures) c.number.ensures refl

pub returns : goal.returns
returns c = all_hold c.args.book.facts.items (λ s place from. subst (λ (l : List Fact). Keeps s l place) c.in_ok-judge.ensures.facts (c.in-None.ensures s place from))
