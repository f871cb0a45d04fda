use Rattle.law_moves.proofs.Extended.{all_extend}
use Rattle.law_moves.proofs.laws.moves_only_add.Goals as goal

pub returns : goal.returns
returns c = all_extend
