use Rattle.std.proofs.Common.{length}
use Rattle.server_core.proofs.Failing.{all-by_one}
use Rattle.server_core.proofs.laws.one_session_fails.Goals as goal

pub returns : goal.returns
returns g c = λ setting state speaker before found own. all-by_one setting state (length speaker.jobs) speaker before found own
