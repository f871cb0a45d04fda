use Rattle.client_core.proofs.SizeLemmas.{call-size}
use Rattle.client_core.proofs.calling.sizes_of_calls.Goals as goal

pub returns : goal.returns
returns c wrap body = call-size c.sizes_of_spellings.ensures wrap body
