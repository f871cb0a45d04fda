use Rattle.id_window.proofs.LawLemmas.{not_above_floor}
use Rattle.id_window.proofs.laws.others_are_not_above_the_floor.Goals as goal

pub returns : goal.returns
returns c history = not_above_floor history
