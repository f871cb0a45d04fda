use Rattle.containers.proofs.Exact.{parts_of-container_of, begins_container-container_of}
use Rattle.containers.proofs.laws.packed_is_unfolded.Goals as goal

pub returns-clause-begins : goal.returns-clause-begins
returns-clause-begins c = begins_container-container_of

pub returns-clause-unfolded : goal.returns-clause-unfolded
returns-clause-unfolded c = parts_of-container_of
