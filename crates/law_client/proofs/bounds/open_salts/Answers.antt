use Rattle.law_client.proofs.Salted.{made-sourced}
use Rattle.law_client.proofs.bounds.open_salts.Goals as goal

pub returns : goal.returns
returns g c = λ setting key temporary draw events is. (made-sourced setting key temporary draw events).opened is
