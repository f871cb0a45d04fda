use Rattle.cmd_call.proofs.BatchLemmas.{has_cause}
use Rattle.cmd_call.proofs.laws.statuses_have_causes.Goals as goal

pub returns : goal.returns
returns g c = λ rules plan course end attempts how left one due undecided all told. has_cause rules plan course end attempts how left one due undecided all told
