use Rattle.law_client.proofs.Own.{is_made, submits}
use Rattle.law_client.proofs.laws.clients_submit.Goals as goal

pub returns-clause-lawful : goal.returns-clause-lawful
returns-clause-lawful c = λ w number client body s. is_made w number client s

pub returns-clause-stands : goal.returns-clause-stands
returns-clause-stands c = submits
