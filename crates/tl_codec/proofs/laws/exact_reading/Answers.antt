use Rattle.tl_codec.proofs.Fronts.{takes, taken_again}
use Rattle.tl_codec.proofs.laws.exact_reading.Goals as goal

pub returns-clause-taken : goal.returns-clause-taken
returns-clause-taken c = λ form value text rest fits e. takes form text value rest fits e

pub returns-clause-read : goal.returns-clause-read
returns-clause-read c = λ form value text rest t. taken_again form text value rest t
