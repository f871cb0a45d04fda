use Rattle.frame_len.proofs.Written.{told}
use Rattle.frame_len.proofs.laws.padding_is_told.Goals as goal

pub returns : goal.returns
returns c = told
