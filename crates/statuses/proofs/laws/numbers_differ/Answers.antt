use Rattle.statuses.proofs.Numbers.{same-number}
use Rattle.statuses.proofs.laws.numbers_differ.Goals as goal

pub returns : goal.returns
returns c = λ one other same. same-number one other same
