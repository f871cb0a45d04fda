use Rattle.trace_check.proofs.Judging.{yes}
use Rattle.trace_check.proofs.Tests.{when_unknown}
use Rattle.trace_check.proofs.judge.Judge.is_lost_so.Goals as goal

pub returns-in-Unknown : goal.returns-in-Unknown
returns-in-Unknown c = when_unknown c.args.self.now.book.facts.items c.args.call c.args.told.now c.in-Unknown.cause c.is_lost_by.result c.in-Unknown.is c.is_lost_by.ensures

pub returns-in_default : goal.returns-in_default
returns-in_default c = yes (λ cause e. absurd (c.in_default.not-Unknown cause e))
