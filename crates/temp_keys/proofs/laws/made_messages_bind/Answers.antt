use Rattle.temp_keys.proofs.CallLemmas.{made-binds}
use Rattle.temp_keys.proofs.laws.made_messages_bind.Goals as goal

pub returns : goal.returns
returns c = λ call key permanent says temporary lasts. made-binds call key permanent says temporary lasts
