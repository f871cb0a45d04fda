use Rattle.law_server_replay.proofs.OneRing.{one_ring}
use Rattle.law_server_replay.proofs.laws.rings_say_one_thing.Goals as goal

pub returns : goal.returns
returns c = λ ring keys other one two. one_ring ring keys other one two
