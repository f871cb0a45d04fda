use Rattle.id_window.specs.Window.{Stands}
use Rattle.id_window.proofs.LawLemmas.{never_judged}
use Rattle.id_window.proofs.laws.numbers_are_judged_once.Goals as goal

pub returns-clause-once : goal.returns-clause-once
unfolding Stands
returns-clause-once c window history marks stands = stands.once

pub returns-clause-new : goal.returns-clause-new
returns-clause-new c history number above none = never_judged history number above none
