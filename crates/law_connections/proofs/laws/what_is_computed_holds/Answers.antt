use Rattle.std.proofs.Common.{refl}
use Rattle.world_rules.specs.World.{counted}
use Rattle.law_connections.proofs.Shown.{made-opens, new-words}
use Rattle.law_connections.proofs.laws.what_is_computed_holds.Goals as goal

pub returns-clause-words : goal.returns-clause-words
returns-clause-words g c = λ words new. new-words words new

pub returns-clause-packets : goal.returns-clause-packets
returns-clause-packets g c = λ setting world now number dir made. made-opens setting world now number dir (counted number world.bag) refl made
