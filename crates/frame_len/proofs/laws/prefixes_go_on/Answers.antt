use Rattle.frame_len.proofs.Prefixes.{short_goes_on}
use Rattle.frame_len.proofs.laws.prefixes_go_on.Goals as goal

pub returns : goal.returns
returns c = short_goes_on
