use Rattle.trace_check.proofs.Judging.{iff_by, no, only_row}
use Rattle.trace_check.proofs.judge.Judge.is_only.Goals as goal

pub returns-in-Some : goal.returns-in-Some
returns-in-Some c = iff_by c.is_only_at.ensures (only_row c.args.self.now.book.facts.items c.args.call c.in-Some.row c.args.reply.now c.in-Some.ensures)

pub returns-in-None : goal.returns-in-None
returns-in-None c = no (λ ran. c.in-None.ensures (ran.place, (ran.entry, ran.is)))
