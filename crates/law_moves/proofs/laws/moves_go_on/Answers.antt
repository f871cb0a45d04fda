use Rattle.law_moves.proofs.Stays.{reached_on, lawful_on, after_on}
use Rattle.law_moves.proofs.laws.moves_go_on.Goals as goal

pub returns : goal.returns
returns c = record { reached = reached_on; lawful = lawful_on; after = after_on }
