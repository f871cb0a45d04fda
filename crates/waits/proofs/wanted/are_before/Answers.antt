use Rattle.std.proofs.lemmas.Bool.{ltb-true}
use Rattle.waits.proofs.Rising.{last_before}
use Rattle.waits.proofs.wanted.are_before.Goals as goal

pub returns-in-Some : goal.returns-in-Some
returns-in-Some c = λ is. last_before c.args.jobs.now c.in-Some.last.now c.args.stamp c.requires c.in-Some.ensures.lookup (ltb-true c.in-Some.last.now.stamp c.args.stamp is)
