use Rattle.std.proofs.Common.{refl}
use Rattle.client_rules.specs.Client.{calls_of}
use Rattle.law_order.specs.Going.{IsReady}
use Rattle.law_order.proofs.Filling.{flush-so}
use Rattle.law_order.proofs.Following.{nothing-last}
use Rattle.law_order.proofs.client_laws.packets_have_calls_as_they_went.Goals as goal

pub returns : goal.returns
returns g c = λ setting now client draw turn ready.
    (flush-so (record { calls = calls_of client; key = client.key }) (IsReady client) setting now client draw (λ is. is)
    (record { turn = turn; lasting = nothing-last (calls_of client); same = refl })).1 ready
