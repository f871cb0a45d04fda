use Rattle.std.proofs.Common.{List, [], refl, inl, inr}
use Rattle.envelope.specs.declared.parts.Envelope.{Envelope}
use Rattle.call_table.specs.Table.{Call}
use Rattle.client_rules.specs.Client.{Client, calls_of}
use Rattle.law_order.specs.Behind.{Last}
use Rattle.law_order.specs.Going.{IsPacketFrom}
use Rattle.law_order.proofs.Events.{step-turn}
use Rattle.law_order.proofs.Filling.{all-from, from-last}
use Rattle.law_order.proofs.Following.{Base, nothing-last}
use Rattle.law_order.proofs.client_laws.calls_stay.Goals as goal

abbrev base_of : Client → Base
base_of client = record { calls = calls_of client; key = client.key }

nothing : Base
nothing = record { calls = []; key = 0 }

pub returns-clause-key : goal.returns-clause-key
returns-clause-key g c = λ setting run event turn.
    (step-turn (base_of run.client) setting run event (record { turn = turn; lasting = nothing-last (calls_of run.client); same = refl })).same

pub returns-clause-calls : goal.returns-clause-calls
returns-clause-calls g c = λ setting run event turn.
    (step-turn (base_of run.client) setting run event (record { turn = turn; lasting = nothing-last (calls_of run.client); same = refl })).lasting

stays : (calls later : List Call) (envelope : Envelope) → Last calls later → IsPacketFrom calls envelope → IsPacketFrom later envelope
stays calls later envelope lasts (inl from) = inl (from-last nothing ⊥ envelope.session envelope.number envelope.body calls later lasts from)
stays calls later envelope lasts (inr from) =
    inr
    (record { messages = from.messages; body = from.body; inner = all-from nothing ⊥ envelope.session calls later from.messages lasts from.inner; below = from.below })

pub returns-clause-packets : goal.returns-clause-packets
returns-clause-packets g c = stays
