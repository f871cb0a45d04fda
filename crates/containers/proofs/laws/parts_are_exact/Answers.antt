use Rattle.containers.proofs.Exact.{parts_of-container, container-parts_of}
use Rattle.containers.proofs.laws.parts_are_exact.Goals as goal

pub returns-clause-lawful : goal.returns-clause-lawful
returns-clause-lawful c = parts_of-container

pub returns-clause-only_lawful : goal.returns-clause-only_lawful
returns-clause-only_lawful c = container-parts_of
