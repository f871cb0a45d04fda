use Rattle.secret_relay.proofs.Phases.{relayed}
use Rattle.secret_relay.proofs.laws.written_by_the_relay.Goals as goal

pub returns : goal.returns
returns c = λ relay. relayed relay.form relay.secret relay.phase
