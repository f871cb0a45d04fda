use Rattle.transport.proofs.Spelling.{spells_more}
use Rattle.transport.proofs.laws.a_packet_more_is_spelt.Goals as goal

pub returns : goal.returns
returns c = spells_more c.ctr_pieces_equal_the_whole.ensures c.ctr_undoes_itself.ensures
