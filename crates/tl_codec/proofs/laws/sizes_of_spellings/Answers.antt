use Rattle.tl_codec.proofs.Sizes.{spelt_sized}
use Rattle.tl_codec.proofs.laws.sizes_of_spellings.Goals as goal

pub returns : goal.returns
returns c = spelt_sized
