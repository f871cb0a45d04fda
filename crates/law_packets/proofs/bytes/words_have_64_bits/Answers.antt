use Rattle.law_packets.proofs.Words.{word-small}
use Rattle.law_packets.proofs.bytes.words_have_64_bits.Goals as goal

pub returns : goal.returns
returns c = λ draw. word-small draw.key draw.place
