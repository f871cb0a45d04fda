use Rattle.regs_service.proofs.ServedLemmas.{after_one, served_and_one}
use Rattle.regs_service.proofs.laws.served_grows.Goals as goal

pub returns-clause-state : goal.returns-clause-state
returns-clause-state g c = after_one g.V.Service.step g.V.Service.fresh_state

pub returns-clause-served : goal.returns-clause-served
returns-clause-served g c = served_and_one g.V.Service.step g.V.Service.fresh_state
