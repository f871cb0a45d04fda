use Rattle.std.proofs.Common.{refl}
use Rattle.crc_core.specs.Crc32.{fed}
use Rattle.crc_core.proofs.Crc.new.Goals as goal

pub returns : goal.returns
unfolding fed
returns c = refl
