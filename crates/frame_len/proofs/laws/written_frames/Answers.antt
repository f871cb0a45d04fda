use Rattle.frame_len.proofs.Written.{written}
use Rattle.frame_len.proofs.laws.written_frames.Goals as goal

pub returns : goal.returns
returns c = written
