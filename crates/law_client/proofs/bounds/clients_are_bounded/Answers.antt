use Rattle.std.proofs.Common.{arith}
use Rattle.client_rules.specs.Events.{made}
use Rattle.law_client.proofs.Bounded.{all-bounded}
use Rattle.law_client.proofs.bounds.clients_are_bounded.Goals as goal

pub returns : goal.returns
returns g c = λ setting key temporary draw events.
    all-bounded setting (made setting key temporary draw) events (record { learnt = omega arith; packets = omega arith })
