use Rattle.std.proofs.Common.{arith}
use Rattle.waits.specs.Jobs.{job_count, job_bytes, load_of}
use Rattle.waits.specs.Stamps.{queue_of}
use Rattle.waits.proofs.Asked.{own_length, own_sum}
use Rattle.waits.proofs.View.{viewed}
use Rattle.waits.proofs.jobs.Jobs.load.Goals as goal

pub returns-clause-count : goal.returns-clause-count
returns-clause-count c =
    let xs = c.self.inside.owners.jobs in
    omega (arith, c.load.ensures.count, own_length c.args.key c.args.session xs, viewed (job_count c.args.key c.args.session) (queue_of xs) c.self.inside.room c.args.self.now c.self.view_is)

pub returns-clause-bytes : goal.returns-clause-bytes
returns-clause-bytes c =
    let xs = c.self.inside.owners.jobs in
    omega (arith, c.load.ensures.bytes, own_sum (λ one. load_of one.job) c.args.key c.args.session xs, viewed (job_bytes c.args.key c.args.session) (queue_of xs) c.self.inside.room c.args.self.now c.self.view_is)
