use Rattle.envelope.proofs.Openings.{opens_whole}
use Rattle.envelope.proofs.laws.whole_plain_texts_open.Goals as goal

pub returns : goal.returns
returns c = λ lock ring now dir packet plain again bytes plain_bytes long read whole. opens_whole lock again c.byte_laws.ensures ring now dir packet plain bytes plain_bytes long read whole
