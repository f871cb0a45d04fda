use Rattle.disks.proofs.CrashLemmas.{at_once, one_more, no_more}
use Rattle.disks.proofs.laws.crashes_by_acts.Goals as goal

pub returns-clause-at_once : goal.returns-clause-at_once
returns-clause-at_once c = at_once

pub returns-clause-one_more : goal.returns-clause-one_more
returns-clause-one_more c = one_more

pub returns-clause-no_more : goal.returns-clause-no_more
returns-clause-no_more c = no_more
