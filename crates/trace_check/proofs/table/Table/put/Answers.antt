use Rattle.trace_check.proofs.Places.{noted}
use Rattle.trace_check.proofs.table.Table.put.Goals as goal

pub returns : goal.returns
returns c = λ keys h len. noted c.args.self.now.rows c.insert.new.self keys c.args.key c.args.place c.first_or-first.result h len c.first_or-first.ensures c.in_ok-insert.ensures.updates
