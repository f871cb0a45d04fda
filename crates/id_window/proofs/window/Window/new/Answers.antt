use Rattle.std.proofs.Common.{[]}
use Rattle.id_window.specs.Window.{Stands}
use Rattle.id_window.proofs.WindowLemmas.{stands_as, stands_fresh}
use Rattle.id_window.proofs.window.Window.new.Goals as goal

pub returns-clause-stands : goal.returns-clause-stands
unfolding Stands
returns-clause-stands c = stands_as [] [] 0 0 _ _ _ _ c.in_ok-with_capacity.ensures.items c.in_ok-with_capacity-2.ensures.items stands_fresh
