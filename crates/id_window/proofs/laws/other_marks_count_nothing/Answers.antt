use Rattle.id_window.specs.History.{kept}
use Rattle.id_window.specs.Window.{Stands}
use Rattle.id_window.proofs.LawLemmas.{other_marks}
use Rattle.id_window.proofs.laws.other_marks_count_nothing.Goals as goal

pub returns : goal.returns
unfolding Stands
returns c window history marks others stands same =
    record { rows = other_marks marks others window.rows (kept history) same stands.rows; accepted = stands.accepted; floor = stands.floor; once = stands.once }
