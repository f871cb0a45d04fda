use Rattle.std.proofs.Common.{ap}
use Rattle.id_window.specs.Crossing.{crossing}
use Rattle.id_window.specs.Window.{Stands}
use Rattle.id_window.proofs.WindowLemmas.{found_is}
use Rattle.id_window.proofs.laws.windows_tell.Goals as goal

pub returns-clause-found : goal.returns-clause-found
unfolding Stands
returns-clause-found c window history marks stands number = found_is window history marks stands number

pub returns-clause-floor : goal.returns-clause-floor
unfolding Stands
returns-clause-floor c window history marks stands = stands.floor

pub returns-clause-crosses : goal.returns-clause-crosses
unfolding Stands
returns-clause-crosses c window history marks stands number seq = ap (crossing number seq) stands.accepted
