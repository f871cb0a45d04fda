use Rattle.law_server.proofs.Floor.{floor-rises, dropped-below, packet-adds}
use Rattle.law_server.proofs.laws.floors_never_fall.Goals as goal

pub returns-clause-rises : goal.returns-clause-rises
returns-clause-rises c = floor-rises

pub returns-clause-dropped : goal.returns-clause-dropped
returns-clause-dropped c = dropped-below c.others_are_not_above_the_floor.ensures

pub returns-clause-added : goal.returns-clause-added
returns-clause-added c = packet-adds
