use Rattle.law_server.proofs.Attached.{attach-starts}
use Rattle.law_server.proofs.laws.attached_sessions_start.Goals as goal

pub returns : goal.returns
returns g c = attach-starts
