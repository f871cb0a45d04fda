use Rattle.auth_keys.specs.KeyFile.{lines_of}
use Rattle.auth_keys.proofs.Readings.{keys-one, ring-no_fault, fault-one}
use Rattle.auth_keys.proofs.laws.one_reading.Goals as goal

pub returns-clause-ring : goal.returns-clause-ring
returns-clause-ring c = λ text ring other h k. keys-one (lines_of text) ring other h.0 k.0

pub returns-clause-no_fault : goal.returns-clause-no_fault
returns-clause-no_fault c = λ text ring fault h k. ring-no_fault text ring fault h k

pub returns-clause-fault : goal.returns-clause-fault
returns-clause-fault c = λ text fault other f g h k. fault-one text fault other f g h k
