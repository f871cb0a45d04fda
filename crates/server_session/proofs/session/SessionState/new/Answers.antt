use Rattle.std.proofs.Common.{ap}
use Rattle.msg_ids.specs.Counters.{Counters, room}
use Rattle.server_session.proofs.session.SessionState.new.Goals as goal

pub returns-clause-numbers : goal.returns-clause-numbers
unfolding room
returns-clause-numbers g c = ap (λ (counters : Counters). room counters) c.new-4.ensures
