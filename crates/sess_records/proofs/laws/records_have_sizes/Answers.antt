use Rattle.sess_records.proofs.FormLemmas.{spelt_size}
use Rattle.sess_records.proofs.OneLemmas.{work_size}
use Rattle.sess_records.proofs.laws.records_have_sizes.Goals as goal

pub returns-clause-spelt : goal.returns-clause-spelt
returns-clause-spelt c = spelt_size

pub returns-clause-work : goal.returns-clause-work
returns-clause-work c = work_size
