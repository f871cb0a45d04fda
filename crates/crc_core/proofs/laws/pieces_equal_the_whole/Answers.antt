use Rattle.crc_core.proofs.TextLaws.{fed-append}
use Rattle.crc_core.proofs.laws.pieces_equal_the_whole.Goals as goal

pub returns : goal.returns
returns c = fed-append
