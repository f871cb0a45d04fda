use Rattle.sess_records.proofs.OneLemmas.{fronts, no_fault, one_fault, one_list, one_seed}
use Rattle.sess_records.proofs.laws.files_spell_one_list.Goals as goal

pub returns-clause-seed : goal.returns-clause-seed
returns-clause-seed c = one_seed

pub returns-clause-entries : goal.returns-clause-entries
returns-clause-entries c = one_list

pub returns-clause-no_fault : goal.returns-clause-no_fault
returns-clause-no_fault c = no_fault

pub returns-clause-one_fault : goal.returns-clause-one_fault
returns-clause-one_fault c = one_fault

pub returns-clause-front : goal.returns-clause-front
returns-clause-front c = fronts
