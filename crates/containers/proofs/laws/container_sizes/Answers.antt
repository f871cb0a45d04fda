use Rattle.containers.proofs.Rows.{length-container_of-size_of, size_of-push}
use Rattle.containers.proofs.laws.container_sizes.Goals as goal

pub returns-clause-whole : goal.returns-clause-whole
returns-clause-whole c = length-container_of-size_of

pub returns-clause-grown : goal.returns-clause-grown
returns-clause-grown c = size_of-push
