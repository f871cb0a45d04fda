use Rattle.std.proofs.Common.{sym}
use Rattle.waits.specs.Wanted.{is_wanted}
use Rattle.waits.proofs.Searching.{few_before}
use Rattle.waits.proofs.owner.Owner.count.Goals as goal

pub returns-then-not-may_have : goal.returns-then-not-may_have
returns-then-not-may_have c = sym (few_before (is_wanted c.args.wanted.now) c.args.limit c.args.self.now.jobs (c.may_have.ensures c.if-not-may_have.true))
