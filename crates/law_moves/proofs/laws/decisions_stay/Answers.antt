use Rattle.law_moves.proofs.Stays.{decided_stays}
use Rattle.law_moves.proofs.Extended.{all_extend}
use Rattle.law_moves.proofs.laws.decisions_stay.Goals as goal

pub returns-clause-decided : goal.returns-clause-decided
returns-clause-decided c = λ w moves call lawful submitted decided. decided_stays w moves call lawful submitted decided

pub returns-clause-executed : goal.returns-clause-executed
returns-clause-executed c = λ w moves entry lawful among. (all_extend w moves lawful).entries entry among
