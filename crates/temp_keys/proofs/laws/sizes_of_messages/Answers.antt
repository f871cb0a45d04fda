use Rattle.temp_keys.proofs.SealLemmas.{length-said}
use Rattle.temp_keys.proofs.laws.sizes_of_messages.Goals as goal

pub returns : goal.returns
returns c = λ key message number inner says. length-said c.seal_laws.ensures key message number inner says
