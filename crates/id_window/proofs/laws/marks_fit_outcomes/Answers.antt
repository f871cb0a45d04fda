use Rattle.id_window.specs.History.{kept}
use Rattle.id_window.specs.Window.{Stands}
use Rattle.id_window.proofs.LawLemmas.{marks_fit, marks_had}
use Rattle.id_window.proofs.laws.marks_fit_outcomes.Goals as goal

pub returns-clause-given : goal.returns-clause-given
unfolding Stands
returns-clause-given c window history marks stands = marks_fit marks window.rows (kept history) stands.rows

pub returns-clause-had : goal.returns-clause-had
unfolding Stands
returns-clause-had c window history marks stands = marks_had window history marks stands
