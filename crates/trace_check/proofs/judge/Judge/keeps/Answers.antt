use Rattle.std.proofs.Common.{IsTrue, ◌↔◌, subst, sym}
use Rattle.trace_check.specs.declared.sentence.Sentence.{Sentence}
use Rattle.trace_check.specs.Sentences.{Keeps}
use Rattle.trace_check.proofs.judge.Judge.keeps.Goals as goal

pub returns-in-AtMostOnce : goal.returns-in-AtMostOnce
returns-in-AtMostOnce c = subst (λ (s : Sentence). IsTrue c.is_first.result ↔ Keeps s c.args.self.now.book.facts.items c.args.place) (sym c.in-AtMostOnce.is) c.is_first.ensures

pub returns-in-AsSent : goal.returns-in-AsSent
returns-in-AsSent c = subst (λ (s : Sentence). IsTrue c.was_asked.result ↔ Keeps s c.args.self.now.book.facts.items c.args.place) (sym c.in-AsSent.is) c.was_asked.ensures

pub returns-in-Done : goal.returns-in-Done
returns-in-Done c = subst (λ (s : Sentence). IsTrue c.ran_once.result ↔ Keeps s c.args.self.now.book.facts.items c.args.place) (sym c.in-Done.is) c.ran_once.ensures

pub returns-in-Replaced : goal.returns-in-Replaced
returns-in-Replaced c = subst (λ (s : Sentence). IsTrue c.is_unreplaced.result ↔ Keeps s c.args.self.now.book.facts.items c.args.place) (sym c.in-Replaced.is) c.is_unreplaced.ensures

pub returns-in-Unknown : goal.returns-in-Unknown
returns-in-Unknown c = subst (λ (s : Sentence). IsTrue c.has_cause.result ↔ Keeps s c.args.self.now.book.facts.items c.args.place) (sym c.in-Unknown.is) c.has_cause.ensures

pub returns-in-Served : goal.returns-in-Served
returns-in-Served c = subst (λ (s : Sentence). IsTrue c.was_served.result ↔ Keeps s c.args.self.now.book.facts.items c.args.place) (sym c.in-Served.is) c.was_served.ensures
