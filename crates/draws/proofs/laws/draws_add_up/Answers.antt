use Rattle.draws.proofs.WordLemmas.{draw_after-add, next_words-add, length-next_words}
use Rattle.draws.proofs.laws.draws_add_up.Goals as goal

pub returns-clause-after : goal.returns-clause-after
returns-clause-after g c = draw_after-add g.D.Draw.step

pub returns-clause-words : goal.returns-clause-words
returns-clause-words g c = next_words-add g.D.Draw.step

pub returns-clause-length : goal.returns-clause-length
returns-clause-length g c = length-next_words g.D.Draw.step
