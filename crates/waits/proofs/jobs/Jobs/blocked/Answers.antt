use Rattle.std.proofs.Common.{not, arith}
use Rattle.waits.specs.Jobs.{is_ready, blocked_count_of}
use Rattle.waits.specs.Stamps.{queue_of, own}
use Rattle.waits.proofs.Sums.{tally_le}
use Rattle.waits.proofs.Asked.{own_tally}
use Rattle.waits.proofs.View.{viewed}
use Rattle.waits.proofs.jobs.Jobs.blocked.Goals as goal

pub returns-clause-count : goal.returns-clause-count
returns-clause-count c =
    let xs = c.self.inside.owners.jobs in
    omega (arith, c.totals_of.ensures.totals.blocked, own_tally (λ one. not (is_ready one)) c.args.key c.args.session xs, viewed (blocked_count_of c.args.key c.args.session) (queue_of xs) c.self.inside.room c.args.self.now c.self.view_is)

pub returns-clause-within : goal.returns-clause-within
returns-clause-within c =
    let fewer = tally_le (λ x. not (is_ready x.one)) (own c.args.key c.args.session c.self.inside.owners.jobs) in
    omega (arith, c.totals_of.ensures.totals.blocked, c.totals_of.ensures.totals.count, c.totals_of.ensures.within)
