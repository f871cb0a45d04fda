use Rattle.law_runs.proofs.Bodies.{joint-of}
use Rattle.law_runs.proofs.laws.runs_are_of_the_ring.Goals as goal

pub returns : goal.returns
returns g c = joint-of c.bodies_are_bytes.ensures
