use Rattle.std.proofs.Common.{◌∙◌, ap}
use Rattle.id_window.specs.Window.{Contents, Stands}
use Rattle.id_window.proofs.window.Window.floor.Goals as goal

pub returns-clause-stands : goal.returns-clause-stands
unfolding Stands
returns-clause-stands c history marks stands = ap (λ (window : Contents). window.floor) c.self.view_is ∙ stands.floor
