use Rattle.temp_keys.proofs.CallLemmas.{binds-one, binds-no_fault, fault-one}
use Rattle.temp_keys.proofs.laws.one_answer.Goals as goal

pub returns-clause-bound : goal.returns-clause-bound
returns-clause-bound c = λ call bound other h k. binds-one call bound other h k

pub returns-clause-not_both : goal.returns-clause-not_both
returns-clause-not_both c = λ call bound fault h k. binds-no_fault c.seal_laws.ensures call bound fault h k

pub returns-clause-fault : goal.returns-clause-fault
returns-clause-fault c = λ call fault other h k. fault-one c.seal_laws.ensures call fault other h k
