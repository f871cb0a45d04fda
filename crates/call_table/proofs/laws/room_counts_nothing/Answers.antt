use Rattle.call_table.proofs.laws.room_counts_nothing.Goals as goal

pub returns : goal.returns
returns c = λ kept table room stands. record { rows = stands.rows; acks = stands.acks; packets = stands.packets }
