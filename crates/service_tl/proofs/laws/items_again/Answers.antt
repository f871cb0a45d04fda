use Rattle.service_tl.proofs.Again.{item_again}
use Rattle.service_tl.proofs.laws.items_again.Goals as goal

pub returns : goal.returns
returns c = item_again c.written_again.ensures.read
