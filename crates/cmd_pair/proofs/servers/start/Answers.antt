use Rattle.std.proofs.Common.{map}
use Rattle.std.specs.Prelude.{string_bytes}
use Rattle.mt_edge.specs.declared.act.Act.TheVariants.{Failed}
use Rattle.cmd_pair.proofs.Spawning.{unstarted}
use Rattle.cmd_pair.proofs.servers.start.Goals as goal

pub returns-in-Failed : goal.returns-in-Failed
returns-in-Failed g c =
    unstarted g.P.Spawner.calls g.P.Spawner.faults (map string_bytes c.args.words.now) c.args.kids.now c.start.new.self Failed c.in-Failed.ensures.told c.in-Failed.ensures.counted
