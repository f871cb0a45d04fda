use Rattle.sched_text.proofs.Spelled.{text_says}
use Rattle.sched_text.proofs.laws.every_list_has_a_text.Goals as goal

pub returns : goal.returns
returns c = λ events h. text_says 1 events h
