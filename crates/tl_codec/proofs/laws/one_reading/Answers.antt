use Rattle.tl_codec.proofs.Fronts as fronts
use Rattle.tl_codec.proofs.laws.one_reading.Goals as goal

pub returns : goal.returns
returns c = fronts.one_reading
