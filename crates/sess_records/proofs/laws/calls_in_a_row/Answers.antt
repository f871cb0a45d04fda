use Rattle.sess_records.proofs.RowLemmas.{one_more, settled_spells, some_more, taken_spells}
use Rattle.sess_records.proofs.laws.calls_in_a_row.Goals as goal

pub returns-clause-spells : goal.returns-clause-spells
returns-clause-spells c = settled_spells

pub returns-clause-read : goal.returns-clause-read
returns-clause-read c = taken_spells

pub returns-clause-one : goal.returns-clause-one
returns-clause-one c = one_more

pub returns-clause-more : goal.returns-clause-more
returns-clause-more c = some_more
