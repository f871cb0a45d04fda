use Rattle.std.proofs.Common.{◌∙◌, ℕ, List, length, subst, sym, ap, OnOk, IfOk, IfErr}
use Rattle.sched_text.specs.Lines.{lines_in}
use Rattle.trace_check.specs.declared.fact.Fact.{Fact}
use Rattle.trace_check.specs.Lawful.{IsTrace}
use Rattle.trace_check.specs.Reading.{facts_of}
use Rattle.trace_check.specs.Books.{IsFault, IsFound, Rise}
use Rattle.trace_check.proofs.Meanings.{AreRead}
use Rattle.trace_check.proofs.Answering.{fault_of, found_of}
use Rattle.trace_check.proofs.Lines.{as_many, lines_rise}
use Rattle.trace_check.proofs.checking.check.Goals as goal

pub judged-requires-clause-count : goal.judged-requires-clause-count
judged-requires-clause-count c =
    ap (λ (l : List ℕ). length l) (c.as_slice.ensures.value ∙ c.in_ok-log.ensures.lines)
    ∙ (as_many (lines_in c.args.text.now) ∙ sym (ap (λ (l : List Fact). length l) c.in_ok-log.ensures.facts))

pub judged-requires-clause-rise : goal.judged-requires-clause-rise
judged-requires-clause-rise c = subst Rise (sym (c.as_slice.ensures.value ∙ c.in_ok-log.ensures.lines)) (lines_rise c.args.text.now)

pub returns-clause-found : goal.returns-clause-found
returns-clause-found c =
    let known : AreRead = record {
      number = c.words_are_read.ensures.number;
      every_number = c.words_are_read.ensures.every_number;
      bytes = c.words_are_read.ensures.bytes;
      all_bytes = c.words_are_read.ensures.all_bytes;
    } in
    let numbers = c.as_slice.ensures.value ∙ c.in_ok-log.ensures.lines in
    found_of known c.args.text.now c.judged.result (subst (λ (l : List Fact). OnOk c.judged.result (IsTrace l)) c.in_ok-log.ensures.facts c.judged.ensures.trace)
    (subst (λ (n : List ℕ). IfOk c.judged.result (IsFound (facts_of (lines_in c.args.text.now)) n)) numbers
    (subst (λ (l : List Fact). IfOk c.judged.result (IsFound l c.as_slice.result.now)) c.in_ok-log.ensures.facts c.judged.ensures.found))

pub returns-clause-fault : goal.returns-clause-fault
returns-clause-fault c =
    let known : AreRead = record {
      number = c.words_are_read.ensures.number;
      every_number = c.words_are_read.ensures.every_number;
      bytes = c.words_are_read.ensures.bytes;
      all_bytes = c.words_are_read.ensures.all_bytes;
    } in
    let numbers = c.as_slice.ensures.value ∙ c.in_ok-log.ensures.lines in
    fault_of known c.args.text.now c.judged.result
    (subst (λ (n : List ℕ). IfErr c.judged.result (IsFault (facts_of (lines_in c.args.text.now)) n)) numbers
    (subst (λ (l : List Fact). IfErr c.judged.result (IsFault l c.as_slice.result.now)) c.in_ok-log.ensures.facts c.judged.ensures.fault))
