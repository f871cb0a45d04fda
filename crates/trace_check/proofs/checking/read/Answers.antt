use Rattle.std.proofs.Common.{◌∙◌, ◌++◌, ap, sym, append-nil}
use Rattle.sched_text.specs.Lines.{lines_in, words_of}
use Rattle.trace_check.specs.Reading.{facts_of, said_by}
use Rattle.trace_check.specs.Facts.{numbers_of}
use Rattle.trace_check.proofs.Finding.{read_more}
use Rattle.trace_check.proofs.checking.read.Goals as goal

pub loop-line-preserved : goal.loop-line-preserved
loop-line-preserved c = record {
  facts =
      read_more (facts_of (lines_in c.args.text.now)) c.loop-line.log.facts.items c.append.new.log.facts.items (facts_of c.next.new.self) (facts_of c.loop-line.lines) c.in_ok-fact.fact (said_by (words_of c.in-Some.words.now))
      c.loop-line.invariant.facts (ap facts_of c.in-Some.ensures.line) c.in_ok-fact.ensures c.in_ok-append.ensures.facts;
  lines =
      read_more (numbers_of (lines_in c.args.text.now)) c.loop-line.log.lines.items c.append.new.log.lines.items (numbers_of c.next.new.self) (numbers_of c.loop-line.lines) c.in-Some.line c.in-Some.line
      c.loop-line.invariant.lines (ap numbers_of c.in-Some.ensures.line) (λ i. c.in-Some.line) c.in_ok-append.ensures.lines;
}

pub returns-clause-facts : goal.returns-clause-facts
returns-clause-facts c = sym (c.loop-line.invariant.facts ∙ (ap (λ l. c.loop-line.log.facts.items ++ facts_of l) c.in_default.ensures.none ∙ append-nil c.loop-line.log.facts.items))

pub returns-clause-lines : goal.returns-clause-lines
returns-clause-lines c = sym (c.loop-line.invariant.lines ∙ (ap (λ l. c.loop-line.log.lines.items ++ numbers_of l) c.in_default.ensures.none ∙ append-nil c.loop-line.log.lines.items))
