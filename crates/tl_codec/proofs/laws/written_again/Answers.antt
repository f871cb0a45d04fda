use Rattle.tl_codec.proofs.Fronts.{again, spelt_reads}
use Rattle.tl_codec.proofs.laws.written_again.Goals as goal

pub returns-clause-reads : goal.returns-clause-reads
returns-clause-reads c = spelt_reads

pub returns-clause-read : goal.returns-clause-read
returns-clause-read c = λ form value text rest spelt. again form value text rest (spelt_reads form value text spelt)
