use Rattle.frame_short.proofs.Prefixes.{begun_goes_on}
use Rattle.frame_short.proofs.laws.prefixes_go_on.Goals as goal

pub returns : goal.returns
returns c = λ bytes fits begun. let on = begun_goes_on bytes fits begun in (on.packet, on.more, on.some, on.frame)
