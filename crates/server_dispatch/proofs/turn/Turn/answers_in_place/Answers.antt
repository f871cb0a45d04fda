use Rattle.server_dispatch.proofs.Steps.{recorded}
use Rattle.server_dispatch.proofs.turn.Turn.answers_in_place.Goals as goal

pub returns-clause-speaks : goal.returns-clause-speaks
returns-clause-speaks g c = λ keys jobs bindings draw speaker none speaks.
    let said = c.answers_shortly.ensures.speaks keys jobs bindings draw speaker none speaks in
    recorded _ _ _ _ _ _ _ _ _ _ _ _ _ _ _ said (c.key.ensures.stands _ _ said.says.stands) (c.number.ensures.stands _ _ said.says.stands) c.bytes.ensures.content c.push.ensures.pushed
