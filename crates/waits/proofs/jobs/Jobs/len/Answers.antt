use Rattle.std.proofs.Common.{length, arith}
use Rattle.waits.specs.Stamps.{queue_of}
use Rattle.waits.proofs.Asked.{queue_length}
use Rattle.waits.proofs.View.{viewed}
use Rattle.waits.proofs.jobs.Jobs.len.Goals as goal

pub returns : goal.returns
returns c = omega (arith, c.totals.ensures.count, queue_length c.self.inside.owners.jobs, viewed length (queue_of c.self.inside.owners.jobs) c.self.inside.room c.args.self.now c.self.view_is)
