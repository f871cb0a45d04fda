use Rattle.std.proofs.Common.{sym}
use Rattle.client_core.proofs.TakingLemmas.{lives, takes_living}
use Rattle.client_core.proofs.core_client.Core.take_lesson.Goals as goal

pub returns-clause-stands : goal.returns-clause-stands
returns-clause-stands c client stands =
    rw (sym (takes_living c.args.outer client c.args.lesson (lives _ client c.acknowledge.ensures.living stands))) (c.take_brought.ensures.stands _ (c.acknowledge.ensures.stands client stands))
