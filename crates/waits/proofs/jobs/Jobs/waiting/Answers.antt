use Rattle.std.proofs.Common.{arith}
use Rattle.waits.specs.Jobs.{is_waiting, waiting_count}
use Rattle.waits.specs.Stamps.{queue_of, own}
use Rattle.waits.proofs.Sums.{tally_le}
use Rattle.waits.proofs.Asked.{own_tally}
use Rattle.waits.proofs.View.{viewed}
use Rattle.waits.proofs.jobs.Jobs.waiting.Goals as goal

pub returns-clause-count : goal.returns-clause-count
returns-clause-count c =
    let xs = c.self.inside.owners.jobs in
    omega (arith, c.totals_of.ensures.totals.waiting, own_tally is_waiting c.args.key c.args.session xs, viewed (waiting_count c.args.key c.args.session) (queue_of xs) c.self.inside.room c.args.self.now c.self.view_is)

pub returns-clause-within : goal.returns-clause-within
returns-clause-within c =
    let fewer = tally_le (λ x. is_waiting x.one) (own c.args.key c.args.session c.self.inside.owners.jobs) in
    omega (arith, c.totals_of.ensures.totals.waiting, c.totals_of.ensures.totals.count, c.totals_of.ensures.within)
