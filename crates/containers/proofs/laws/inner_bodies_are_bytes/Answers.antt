use Rattle.containers.proofs.Bodies.{container-bodies}
use Rattle.containers.proofs.laws.inner_bodies_are_bytes.Goals as goal

pub returns : goal.returns
returns c = container-bodies
