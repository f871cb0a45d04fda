use Rattle.std.proofs.Common.{[], refl}
use Rattle.client_rules.specs.Client.{calls_of}
use Rattle.client_rules.specs.Events.{made}
use Rattle.law_order.proofs.Events.{all-turn, step-turn}
use Rattle.law_order.proofs.Following.{nothing-last}
use Rattle.law_order.proofs.client_laws.calls_go_in_order.Goals as goal

pub returns-clause-made : goal.returns-clause-made
returns-clause-made g c = λ setting key temporary draw. record { behind = tt; living = tt }

pub returns-clause-event : goal.returns-clause-event
returns-clause-event g c = λ setting run event turn.
    (step-turn (record { calls = calls_of run.client; key = run.client.key }) setting run event
    (record { turn = turn; lasting = nothing-last (calls_of run.client); same = refl })).turn

pub returns-clause-all : goal.returns-clause-all
returns-clause-all g c = λ setting key temporary draw events.
    (all-turn (record { calls = []; key = key }) setting events (made setting key temporary draw)
    (record { turn = record { behind = tt; living = tt }; lasting = nothing-last []; same = refl })).turn
