use Rattle.id_window.specs.Window.{Stands}
use Rattle.id_window.proofs.laws.room_counts_nothing.Goals as goal

pub returns : goal.returns
unfolding Stands
returns c = λ window history marks room stands. record { rows = stands.rows; accepted = stands.accepted; floor = stands.floor; once = stands.once }
