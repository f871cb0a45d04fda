use Rattle.trace_check.proofs.Judging.{asked_at, iff_by, yes}
use Rattle.trace_check.proofs.judge.Judge.was_asked.Goals as goal

pub returns-in-Some : goal.returns-in-Some
returns-in-Some c = iff_by c.is_asked.ensures (asked_at c.args.self.now.book.facts.items c.args.place c.in-Some.entry.now c.in-Some.ensures)

pub returns-in-None : goal.returns-in-None
returns-in-None c = yes (λ entry at. absurd (c.in-None.ensures entry at))
